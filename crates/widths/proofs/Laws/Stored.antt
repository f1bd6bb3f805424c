-- Parameters held to a limit: past the last there is none, and a loop puts one after another into a row, until they or the row end.
use mathlib.Core.Path.{◌≡◌, sym, ◌∙◌}
use mathlib.Core.List.{List}
use Prim.Native.Nat.{ℕ, min, ◌+◌, ◌≤◌, ◌<◌}
use native.Mathlib.Omega.{arith}
use lib.ListN.{length, get_or, take, set, get_or-eq_default}
use lib.Seq.{take_all}
use Rattle.text.specs.Rows.{Put}
use Rattle.text.proofs.Laws.Puts.{put_next}
use Rattle.tool.specs.Inner.Held.{held_to}
use Rattle.tool.proofs.Laws.Held.{held_length, held_at}

module _ (limit : ℕ) (values : List ℕ) where
  pub held_nowhere : (place : ℕ) → length values ≤ place → 0 ≡ get_or (held_to limit values) place 0
  held_nowhere place h = sym (get_or-eq_default (held_to limit values) 0 (omega (arith, held_length limit values)))

  pub put_held : {a b : List ℕ} {at m x : ℕ} (i : ℕ) → i < length values → m < length b → x ≡ min (get_or values i 0) limit
      → Put a at (take i (held_to limit values)) m b → Put a at (take (i + 1) (held_to limit values)) (m + 1) (set b m x)
  put_held i h room e v = rw (e ∙ sym (held_at limit values i)) (put_next (held_to limit values) i (omega (arith, held_length limit values)) room v)

  pub put_all_held : {a b : List ℕ} {at m : ℕ} (i : ℕ) → length values ≤ i → Put a at (take i (held_to limit values)) m b → Put a at (held_to limit values) m b
  put_all_held i h v = rw (take_all i (held_to limit values) (omega (arith, held_length limit values))) at v

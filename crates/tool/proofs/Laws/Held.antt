-- Parameters held to a limit: there are as many, each is the least of two, and those within the limit stay as they are.
use mathlib.Core.Path.{◌≡◌, refl}
use mathlib.Core.List.{List, [], ◌∷◌}
use Prim.Native.Nat.{ℕ, zero, suc, min}
use native.Mathlib.Nat.{min-eq_left}
use native.Mathlib.Omega.{arith}
use lib.ListN.{length, get_or, take, length-map}
use lib.Seq.{take_all}
use Rattle.tool.specs.Verbs.{max_parameters}
use Rattle.tool.specs.Inner.Held.{AllAtMost, Usable, held_to}

module _ (limit : ℕ) where
  pub held_length : (values : List ℕ) → length (held_to limit values) ≡ length values
  unfolding held_to
  held_length values = simp length-map

  pub held_at : (values : List ℕ) (i : ℕ) → get_or (held_to limit values) i 0 ≡ min (get_or values i 0) limit
  unfolding held_to
  held_at [] i = omega arith
  held_at (n ∷ values) zero = refl
  held_at (n ∷ values) (suc i) = held_at values i

  pub held_within : (values : List ℕ) → AllAtMost limit values → held_to limit values ≡ values
  unfolding held_to
  held_within [] within = refl
  held_within (n ∷ values) within = rw (min-eq_left (within zero), held_within values (λ i. within (suc i)))

  -- usable parameters stay as they are: none is past the first `max_parameters`, none above the limit
  pub held_usable : {values : List ℕ} → Usable limit values → take max_parameters (held_to limit values) ≡ values
  held_usable {values} u = rw (held_within values u.within) (take_all max_parameters values u.few)

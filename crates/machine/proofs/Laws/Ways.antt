-- The way from one position to another: a run does its steps, the way back is the way taken back, and its steps are sound.
use mathlib.Core.Path.{◌≡◌, refl, sym, ap, ◌∙◌}
use mathlib.Core.Bool.{Bool, true, false, cond}
use mathlib.Core.List.{List, [], ◌∷◌}
use Prim.Native.Nat.{ℕ, ◌≤◌, ◌<◌}
use native.Mathlib.Omega.{arith}
use native.Mathlib.Decide.{dec_lt}
use lib.Dec.{leb}
use lib.ListN.{take, drop, take-append-drop}
use lib.Seq.{slice, slice_empty}
use borrow.Author.Tests.{le-leb, lt-leb}
use Rattle.tape.specs.declared.Step.{Step}
use Rattle.tape.specs.Steps.{AllSound}
use Rattle.machine.specs.Machine.{inverse_step, do_all, undo_all, run, inverted}
use Rattle.machine.specs.Ways.{way}
use Rattle.machine.proofs.Laws.Steps.{inverse_step_twice, sound_append_right, sound_inverted, inverted_append, do_inverted}
use Rattle.machine.proofs.Laws.Runs.{sound_take}

pub run_way : (p : ℕ) (xs : List Step) (i j : ℕ) (v : List ℕ) → run p xs i j v ≡ do_all p (way xs i j) v
unfolding run way
run_way p xs i j v = go (leb i j)
  where
    go : (b : Bool) → cond b (do_all p (slice i j xs) v) (undo_all p (slice j i xs) v) ≡ do_all p (cond b (slice i j xs) (inverted (slice j i xs))) v
    go true = refl
    go false = sym (do_inverted p (slice j i xs) v)

-- by the order of the positions
pub way_forward : (xs : List Step) (i j : ℕ) → i ≤ j → way xs i j ≡ slice i j xs
unfolding way
way_forward xs i j order = rw (le-leb i j order)

pub way_backward : (xs : List Step) (i j : ℕ) → j < i → way xs i j ≡ inverted (slice j i xs)
unfolding way
way_backward xs i j order = rw (lt-leb i j order)

-- from the start on
pub way_out : (xs : List Step) (n : ℕ) → way xs 0 n ≡ take n xs
way_out xs n = way_forward xs 0 n (omega arith)

-- from a position to itself
pub way_here : (xs : List Step) (i : ℕ) → way xs i i ≡ []
way_here xs i = way_forward xs i i (omega arith) ∙ slice_empty i xs

pub run_here : (p : ℕ) (xs : List Step) (i : ℕ) (v : List ℕ) → run p xs i i v ≡ v
unfolding do_all
run_here p xs i v = run_way p xs i i v ∙ ap (λ (l : List Step). do_all p l v) (way_here xs i)

inverted_twice : (xs : List Step) → inverted (inverted xs) ≡ xs
unfolding inverted
inverted_twice [] = refl
inverted_twice (x ∷ xs) = inverted_append (inverted xs) (inverse_step x ∷ []) ∙ rw (inverse_step_twice x, inverted_twice xs)

pub way_back : (xs : List Step) (i j : ℕ) → way xs j i ≡ inverted (way xs i j)
unfolding inverted
way_back xs i j = elim (dec_lt i j) [
  | yes l ↦ way_backward xs j i l ∙ ap inverted (sym (way_forward xs i j (omega arith)))
  | no l ↦ elim (dec_lt j i) [
    | yes k ↦ way_forward xs j i (omega arith) ∙ sym (inverted_twice (slice j i xs)) ∙ ap inverted (sym (way_backward xs i j k))
    | no k ↦ let e : i ≡ j = omega arith in rw (e, way_here xs j)
  ]
]

pub sound_way : (xs : List Step) (i j : ℕ) → AllSound xs → AllSound (way xs i j)
unfolding way
sound_way xs i j a = go (leb i j)
  where
    part : (i j : ℕ) → AllSound (slice i j xs)
    part i j = sound_append_right (take i (take j xs)) (drop i (take j xs)) (rw take-append-drop (sound_take j xs a))

    go : (b : Bool) → AllSound (cond b (slice i j xs) (inverted (slice j i xs)))
    go true = part i j
    go false = sound_inverted (slice j i xs) (part j i)

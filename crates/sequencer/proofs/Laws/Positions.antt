-- A run from one position to another is the steps between them, done, or inverted and done.
use mathlib.Core.Path.{◌≡◌, sym, ap, ◌∙◌}
use mathlib.Core.Bool.{Bool, true, false}
use mathlib.Core.List.{List}
use Prim.Native.Nat.{ℕ, ◌≤◌}
use native.Mathlib.Omega.{arith}
use lib.ListN.{length}
use lib.Seq.{slice}
use native.Mathlib.Decide.{dec_lt}
use borrow.Author.Tests.{le-leb, lt-leb, lt-ltb, le-ltb}
use lib.Dec.{ltb}
use Rattle.tape.specs.declared.Step.{Step}
use Rattle.tape.specs.Layout.{part, steps_in, all_steps}
use Rattle.tape.specs.Inner.Operations.{raw_steps}
use Rattle.tape.specs.Steps.{AllSound}
use Rattle.tape.proofs.Laws.Rows.{all_steps_sound, raw_steps_lem, part_inside}
use Rattle.machine.specs.Machine.{do_all, undo_all, run}
use Rattle.machine.specs.Inner.Carried.{directed_steps}
use Rattle.machine.proofs.Laws.Lists.{map_slice}
use Rattle.machine.proofs.Laws.Steps.{sound_inverted, do_inverted}
use Rattle.sequencer.specs.Inner.Runs.{between}

-- the steps in a part of the words
part_steps : (words : List ℕ) (i j : ℕ) → i ≤ j → j ≤ length words → steps_in (part words i j) ≡ slice i j (steps_in words)
part_steps words i j order inside = ap steps_in (part_inside words i j order inside) ∙ map_slice _ i j words

-- those between two positions, in the direction of the second, are the run
pub run_between : (words : List ℕ) (p : ℕ) (v : List ℕ) (i j : ℕ) → i ≤ length words → j ≤ length words
    → do_all p (directed_steps (ltb j i) (steps_in (between words i j))) v ≡ run p (steps_in words) i j v
unfolding run between
run_between words p v i j from_inside goal_inside =
    elim (dec_lt j i) [
      | yes h ↦ rw (lt-ltb j i h, lt-leb i j h) (do_inverted p _ v ∙ ap (λ (l : List Step). undo_all p l v) (part_steps words j i (omega arith) from_inside))
      | no h ↦
          let order : i ≤ j = omega arith in
          rw (le-ltb j i order, le-leb i j order) (ap (λ (l : List Step). do_all p l v) (part_steps words i j order goal_inside))
    ]

-- they are the steps that the words have in their digits, where all words are steps, and sound
module _ (words : List ℕ) (are : all_steps words ≡ true) where
  pub raw_part : (i j : ℕ) → i ≤ j → j ≤ length words → raw_steps (part words i j) ≡ slice i j (steps_in words)
  raw_part i j order inside = ap raw_steps (part_inside words i j order inside) ∙ map_slice _ i j words ∙ ap (slice i j) (raw_steps_lem words are)

  part_raw : (i j : ℕ) → i ≤ j → j ≤ length words → raw_steps (part words i j) ≡ steps_in (part words i j)
  part_raw i j order inside = raw_part i j order inside ∙ sym (part_steps words i j order inside)

  pub between_raw : (i j : ℕ) → i ≤ length words → j ≤ length words → raw_steps (between words i j) ≡ steps_in (between words i j)
  unfolding between
  between_raw i j from_inside goal_inside =
      elim (dec_lt j i) [
        | yes h ↦ rw (lt-ltb j i h) (part_raw j i (omega arith) from_inside)
        | no h ↦ let order : i ≤ j = omega arith in rw (le-ltb j i order) (part_raw i j order goal_inside)
      ]

pub directed_sound : (undone : Bool) (words : List ℕ) → AllSound (directed_steps undone (steps_in words))
directed_sound true words = sound_inverted _ (all_steps_sound words)
directed_sound false words = all_steps_sound words

-- `unload_lanes` meets its contract: a turn puts what one lane more has in register 1 into its base's place.
use mathlib.Core.Path.{refl, ◌∙◌}
use native.Mathlib.Omega.{arith}
use native.Mathlib.Decide.{ℕ_discrete}
use lib.ListN.{length-set}
use lib.Seq.{get_or-set_same, get_or-set_other}
use Rattle.lanes.proofs.unload_lanes.Goals as goal

pub loop-j-init : goal.loop-j-init
loop-j-init c = (omega arith, λ i less. absurd (omega arith), refl)

pub bounds-rows-j : goal.bounds-rows-j
bounds-rows-j c = omega (arith, c.requires.few, c.requires.eight)

pub loop-j-preserved : goal.loop-j-preserved
loop-j-preserved c =
    let row = c.loop-j.bases in (
      omega arith,
      λ i less.
          elim (ℕ_discrete i c.loop-j.j) [
            | yes e ↦ rw e (get_or-set_same row c.loop-j.j _ 0 (omega arith) ∙ c.leave.ensures)
            | no h ↦ get_or-set_other row c.loop-j.j i _ 0 h ∙ c.loop-j.invariant.1 i (omega arith)
          ],
      length-set row c.loop-j.j _ ∙ c.loop-j.invariant.2,
    )

pub shape_of-bases : goal.shape_of-bases
shape_of-bases c = c.loop-j.invariant.2

pub returns : goal.returns
returns c = record { each = λ j less. c.loop-j.invariant.1 j (omega arith); long = c.loop-j.invariant.2 }

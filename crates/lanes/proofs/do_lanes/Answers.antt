-- `do_lanes` meets its contract: each turn does the next step in every lane, so what the steps that are left make of a lane is what all
-- make of what it set out with.
use mathlib.Core.Path.{◌≡◌, refl, ◌∙◌}
use mathlib.Core.Bool.{false}
use mathlib.Core.List.{◌∷◌}
use Prim.Native.Nat.{◌+◌}
use native.Mathlib.Omega.{arith}
use Rattle.tape.specs.Inner.Operations.{step_for}
use Rattle.register_steps.specs.Inner.Ways.{steps_after}
use Rattle.register_steps.proofs.Laws.Going.{going_start, going_next, going_end, after_none, after_next, after_all_lem}
use Rattle.lanes.proofs.Laws.Steps.{raw_between}
use Rattle.lanes.proofs.do_lanes.Goals as goal

pub loop-i-init : goal.loop-i-init
loop-i-init c = (omega arith, λ j less. going_start _ _ _ _ _ (after_none c.args.words.now false), refl)

pub step_lanes-requires : goal.step_lanes-requires
step_lanes-requires c = (
  record { few = c.requires.few; eight = c.loop-i.invariant.2 ∙ c.requires.eight },
  raw_between _ _ c.operation_of.ensures,
)

pub loop-i-preserved : goal.loop-i-preserved
loop-i-preserved c =
    let stepped = c.step_lanes.ensures in
    let next : steps_after false c.args.words.now c.loop-i.i ≡ step_for c.operation_of.result ∷ steps_after false c.args.words.now (c.loop-i.i + 1) =
    rw c.operation_of.ensures (after_next c.args.words.now false c.loop-i.i (omega arith)) in (
      omega arith,
      λ j less. going_next _ _ _ _ _ _ _ _ _ _ _ next (stepped.values j less) (stepped.inverses j less) (c.loop-i.invariant.1 j less),
      stepped.long ∙ c.loop-i.invariant.2,
    )

pub shape_of-rows : goal.shape_of-rows
shape_of-rows c = c.loop-i.invariant.2

pub returns : goal.returns
returns c =
    record {
      each = λ j less. (going_end _ _ _ _ _ _ _ (after_all_lem c.args.words.now false c.loop-i.i (omega arith)) (c.loop-i.invariant.1 j less)).0;
      long = c.loop-i.invariant.2;
    }

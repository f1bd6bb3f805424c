-- `load_lanes` meets its contract: a turn puts one base more into its lane.
use mathlib.Core.Path.{◌≡◌, ap, ◌∙◌}
use Prim.Native.Nat.{◌<◌}
use native.Mathlib.Omega.{arith}
use lib.ListN.{length, length-set}
use Rattle.montgomery.specs.Inner.Forms.{form_inverse}
use Rattle.lanes.specs.Inner.Lanes.{max_lanes}
use Rattle.lanes.proofs.Laws.Rows.{changed_none, changed_next}
use Rattle.lanes.proofs.load_lanes.Goals as goal

pub loop-j-init : goal.loop-j-init
loop-j-init c = (omega arith, changed_none _ _ _ _ _)

pub bounds-rows-j : goal.bounds-rows-j
bounds-rows-j c = omega (arith, c.loop-j.invariant.1.long, c.requires.few, c.requires.eight)

pub bounds-rows-j-in-loop-j : goal.bounds-rows-j-in-loop-j
bounds-rows-j-in-loop-j c = simp length-set (omega (arith, c.loop-j.invariant.1.long, c.requires.few, c.requires.eight))

pub loop-j-preserved : goal.loop-j-preserved
loop-j-preserved c =
    let done = c.loop-j.invariant.1 in
    let inside : c.loop-j.j < max_lanes = omega (arith, c.requires.few) in (
      omega arith,
      changed_next 1 5 _ _ _ _ _ _ _ inside c.requires.eight (omega arith) (omega arith) done
          c.enter-base.ensures (c.invert-inverse.ensures ∙ ap (form_inverse c.args.m) c.enter-base.ensures),
    )

pub shape_of-rows : goal.shape_of-rows
shape_of-rows c = c.loop-j.invariant.1.long

pub returns : goal.returns
returns c = let all : c.loop-j.j ≡ length c.args.bases.now = omega arith in rw all at c.loop-j.invariant.1

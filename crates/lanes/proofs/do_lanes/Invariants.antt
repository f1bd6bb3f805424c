-- `do_lanes` meets its contract: each turn does the next step in every lane, so what the steps that are left make of a lane is what all
-- make of what it set out with.
use mathlib.Core.Path.{◌≡◌}
use mathlib.Core.Bool.{false}
use Prim.Native.Nat.{ℕ, ◌-◌, ◌≤◌, ◌<◌}
use lib.ListN.{length}
use Rattle.tape.specs.Inner.Operations.{raw_steps}
use Rattle.montgomery.specs.Inner.Forms.{form_times}
use Rattle.register_steps.specs.Inner.Ways.{steps_after}
use Rattle.register_steps.proofs.Laws.Going.{Going}
use Rattle.lanes.specs.Inner.Lanes.{lane}
use Rattle.lanes.proofs.do_lanes.Given as goal

abbrev pub invariant-loop-i : goal.invariant-loop-i
invariant-loop-i l =
    (l.i ≤ length l.words)
    × ((j : ℕ) → j < l.count → Going (form_times l.m) (raw_steps l.words) (steps_after false l.words l.i) (lane l.initial.rows 0 j) (lane l.initial.rows 4 j) (lane l.rows 0 j) (lane l.rows 4 j))
    × (length l.rows ≡ length l.initial.rows)

abbrev pub decreases-loop-i : goal.decreases-loop-i
decreases-loop-i l = length l.words - l.i

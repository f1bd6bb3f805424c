-- `load_lanes` meets its contract: a turn puts one base more into its lane.
use Prim.Native.Nat.{◌-◌, ◌≤◌}
use lib.ListN.{length, get_or}
use Rattle.montgomery.specs.Inner.Forms.{enter, form_inverse}
use Rattle.lanes.specs.Inner.Lanes.{Changed}
use Rattle.lanes.proofs.load_lanes.Given as goal

abbrev pub invariant-loop-j : goal.invariant-loop-j
invariant-loop-j l =
    (l.j ≤ length l.bases) × Changed 1 5 (λ i. enter l.m (get_or l.bases i 0)) (λ i. form_inverse l.m (enter l.m (get_or l.bases i 0))) l.j l.initial.rows l.rows

abbrev pub decreases-loop-j : goal.decreases-loop-j
decreases-loop-j l = length l.bases - l.j

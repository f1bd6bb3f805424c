-- `unload_lanes` meets its contract: a turn puts what one lane more has in register 1 into its base's place.
use mathlib.Core.Path.{◌≡◌}
use Prim.Native.Nat.{ℕ, ◌-◌, ◌≤◌, ◌<◌}
use lib.ListN.{length, get_or}
use Rattle.montgomery.specs.Inner.Forms.{leave}
use Rattle.lanes.specs.Inner.Lanes.{entry}
use Rattle.lanes.proofs.unload_lanes.Given as goal

abbrev pub invariant-loop-j : goal.invariant-loop-j
invariant-loop-j l =
    (l.j ≤ length l.initial.bases) × ((i : ℕ) → i < l.j → get_or l.bases i 0 ≡ leave l.m (entry l.rows 1 i)) × (length l.bases ≡ length l.initial.bases)

abbrev pub decreases-loop-j : goal.decreases-loop-j
decreases-loop-j l = length l.initial.bases - l.j

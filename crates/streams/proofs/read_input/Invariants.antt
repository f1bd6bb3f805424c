-- `read_input` meets its contract: what is read so far fits the row, whose length no call changes. Each read that goes on takes a byte or
-- more of what is left.
use Rattle.std.proofs.Common.{length, ◌-◌, ◌≤◌}
use Rattle.streams.proofs.read_input.Given as goal

abbrev pub invariant-loop-done : goal.invariant-loop-done
invariant-loop-done l = l.done ≤ length l.row

abbrev pub decreases-loop-done : goal.decreases-loop-done
decreases-loop-done l = length l.initial.row - l.done

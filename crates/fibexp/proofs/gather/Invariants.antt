-- `gather` is safe: `at` stays within the row.
use Rattle.std.proofs.Common.{◌≤◌, length}
use Rattle.fibexp.proofs.gather.Given as goal

abbrev pub invariant-loop-i : goal.invariant-loop-i
invariant-loop-i l = l.at ≤ length l.row

-- `least_divisor` meets its contract: the loop goes past odd numbers that don't divide n, which is odd itself (Laws/Least).
use Rattle.std.proofs.Common.{◌+◌, ◌-◌}
use Rattle.orders.proofs.Laws.Least.{Passed}
use Rattle.orders.proofs.least_divisor.Given as goal

abbrev pub invariant-loop-d : goal.invariant-loop-d
invariant-loop-d l = Passed l.n l.d

abbrev pub decreases-loop-d : goal.decreases-loop-d
decreases-loop-d l = 65536 + 1 - l.d

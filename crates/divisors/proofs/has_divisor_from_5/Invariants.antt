-- `has_divisor_from_5` meets its contract. The loop's invariant: d is odd, and no small divisor is below it.
use Rattle.std.proofs.Common.{◌≡◌, ◌-◌, ◌%◌, ◌+◌}
use Rattle.divisors.specs.Inner.Inverted.{NoneBelow}
use Rattle.divisors.proofs.has_divisor_from_5.Given as goal

abbrev pub invariant-loop-d : goal.invariant-loop-d
invariant-loop-d l = (l.d % 2 ≡ 1) × NoneBelow l.p l.d

abbrev pub decreases-loop-d : goal.decreases-loop-d
decreases-loop-d l = l.d-end + 1 - l.d

-- `has_divisor_among` meets its contract. The loop's invariant: `least` is zero where one of the first i primes divides p.
use lib.ListN.{length}
use Rattle.divisors.proofs.Laws.Least.{LeastOf}
use Rattle.divisors.proofs.has_divisor_among.Given as goal

abbrev pub invariant-loop-d : goal.invariant-loop-d
invariant-loop-d l = LeastOf l.primes l.p (length l.yielded) l.least

-- `is_prime` meets its contract. The loop's invariant: nothing from 2 up to d, which leaves 5 modulo 6, divides p. While d is at
-- most the root, 5 * d is at most p, so d + 2 is below p.
use Rattle.std.proofs.Common.{◌+◌, ◌-◌}
use Rattle.modular.proofs.Laws.Primes.{Tried}
use Rattle.modular.proofs.is_prime.Given as goal

abbrev pub invariant-loop-d : goal.invariant-loop-d
invariant-loop-d l = Tried l.p l.d

abbrev pub decreases-loop-d : goal.decreases-loop-d
decreases-loop-d l = 65536 + 5 - l.d

-- `prime_divisors` meets its contract: a round finds the last prime divisor again, or the next one (Laws/Finding).
use Rattle.orders.proofs.Laws.Finding.{Finding}
use Rattle.orders.proofs.prime_divisors.Given as goal

abbrev pub invariant-loop-rest : goal.invariant-loop-rest
invariant-loop-rest l = Finding l.r l.found l.rest l.last

abbrev pub decreases-loop-rest : goal.decreases-loop-rest
decreases-loop-rest l = l.rest

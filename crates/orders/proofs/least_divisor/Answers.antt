-- `least_divisor` meets its contract: the loop goes past odd numbers that don't divide n, which is odd itself (Laws/Least).
use Rattle.std.proofs.Common.{sym, ◌∙◌, arith}
use Rattle.modular.proofs.Laws.Primes.{prime_test}
use Rattle.orders.proofs.Laws.Least.{prime_least, two_least, passed_found, passed_starts, passed_more, passed_ends}
use Rattle.orders.proofs.least_divisor.Goals as goal

pub returns-then-n-eq0 : goal.returns-then-n-eq0
returns-then-n-eq0 c = two_least _ c.if-n-eq0.true

pub returns-then-is_prime : goal.returns-then-is_prime
returns-then-is_prime c = prime_least _ (prime_test _ (sym c.is_prime.ensures ∙ c.if-is_prime.true))

pub loop-d-init : goal.loop-d-init
loop-d-init c = passed_starts _ c.if-n-eq0.false

pub returns-then-n-d-eq0 : goal.returns-then-n-d-eq0
returns-then-n-d-eq0 c = passed_found _ _ c.loop-d.invariant c.if-n-d-eq0.true

pub loop-d-preserved : goal.loop-d-preserved
loop-d-preserved c = passed_more _ c.if-n-eq0.false c.loop-d.d c.loop-d.invariant c.if-n-d-eq0.false

pub returns : goal.returns
returns c = passed_ends _ _ c.loop-d.invariant c.requires (omega arith) c.loop-d-test.false

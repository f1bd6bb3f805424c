-- `Rules::is_order_of` meets its contract: the power of r decides, and then those of r divided by each of its prime divisors (`order_by_primes` of
-- `orders`). Where none of those so far is 1, the divisors that are left decide.
use Rattle.std.proofs.Common.{◌≡◌, drop}
use Rattle.orders.specs.PrimeDivisors.{none_gives_one}
use Rattle.conditions.proofs.Rules.is_order_of.Given as goal

abbrev pub invariant-loop-q : goal.invariant-loop-q
invariant-loop-q l = none_gives_one l.p l.fn.base l.r (drop l.q-index l.q-items) ≡ none_gives_one l.p l.fn.base l.r l.q-items

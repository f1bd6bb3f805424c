-- `prime_divisors` meets its contract: a round finds the last prime divisor again, or the next one (Laws/Finding).
use Rattle.std.proofs.Common.{arith}
use native.Mathlib.Nat.{div-lt_self}
use Rattle.orders.proofs.Laws.Finding.{finding_starts, finding_room, finding_again, finding_more, finding_ends}
use Rattle.orders.proofs.prime_divisors.Goals as goal
use Rattle.orders.proofs.prime_divisors.Goals.{then-last-d, else-last-d}

pub loop-rest-init : goal.loop-rest-init
loop-rest-init c = rw c.new-found.ensures (finding_starts _)

pub push-requires : goal.push-requires
push-requires c = finding_room c.loop-rest.invariant (omega arith) (omega arith)

pub nonzero_div-rest : goal.nonzero_div-rest
nonzero_div-rest c = omega (arith, c.least_divisor-d.ensures.low)

pub loop-rest-smaller : goal.loop-rest-smaller
loop-rest-smaller c = div-lt_self (omega arith) c.least_divisor-d.ensures.low

pub loop-rest-preserved : goal.loop-rest-preserved
loop-rest-preserved c =
    let was = c.loop-rest.invariant in
    let d = c.least_divisor-d.ensures in
    elim c.if-last-d.branch [
      | then-last-d w ↦ rw (w.found-is, w.push.ensures, w.last-is) (finding_more was _ d (omega arith) w.if-last-d.true)
      | else-last-d w ↦ rw (w.found-is, w.last-is) (finding_again was _ d w.if-last-d.false)
    ]

pub returns : goal.returns
returns c = finding_ends c.loop-rest.invariant c.loop-rest-test.false

-- `has_divisor_among` meets its contract. The loop's invariant: `least` is zero where one of the primes gone through divides p.
use Rattle.std.proofs.Common.{length-append, arith}
use Rattle.std.proofs.lemmas.Slice.Zip.{zip_turn, zip_end}
use Rattle.divisors.proofs.Laws.Least.{least_start, least_more, least_end}
use Rattle.divisors.proofs.has_divisor_among.Goals as goal

pub loop-d-init : goal.loop-d-init
loop-d-init c = least_start _ _

pub loop-d-preserved : goal.loop-d-preserved
loop-d-preserved c =
    let turn = zip_turn c.args.primes.now c.args.inverses.now _ c.into_iter-d-iterator.result c.loop-d.d-iterator c.next.new.self _ (cc) (cc) c.loop-d.yielded_by _ c.in-Some.is c.next.ensures.steps in
    rw (c.min-least.ensures, length-append) (least_more _ _ _ _ _ c.loop-d.invariant (rw (turn.2 0) at c.excess.ensures))

pub returns : goal.returns
returns c =
    let count = zip_end c.args.primes.now c.args.inverses.now _ c.into_iter-d-iterator.result c.loop-d.d-iterator c.next.new.self _ (cc) (cc) c.loop-d.yielded_by c.in-None.is c.next.ensures.steps in
    least_end _ _ _ _ c.requires.reach.above c.requires.inverses (omega (arith, c.requires.inverses.same)) c.loop-d.invariant

-- `zeckendorf` meets its contract: the loop takes the places of the greedy form, highest first (Laws/Taking).
use Rattle.std.proofs.Common.{◌≡◌, ◌-◌, arith}
use Rattle.fibonacci.proofs.Laws.Taking.{taking_starts, taking_takes, taking_skips, taking_ends}
use Rattle.zeckendorf.proofs.zeckendorf.Goals as goal
use Rattle.zeckendorf.proofs.zeckendorf.Goals.{then-at-rest, else-at-rest}

pub loop-at-init : goal.loop-at-init
loop-at-init c = (c.high_enough-at.ensures.weight, rw c.new-form.ensures (taking_starts _ _ (omega arith) c.high_enough-at.ensures.place_bound c.high_enough-at.ensures.n_bound))

pub lower-at-requires : goal.lower-at-requires
lower-at-requires c = record {
  weight = c.loop-at.invariant.0;
  place_nonzero = c.loop-at-test.true;
}

pub loop-at-smaller : goal.loop-at-smaller
loop-at-smaller c = omega (arith, c.lower-at.ensures.one_down)

pub loop-at-preserved : goal.loop-at-preserved
loop-at-preserved c =
    let was = c.loop-at.invariant in
    let more = c.loop-at-test.true in
    let weight = was.0.weight_is in
    let place : c.lower-at.result.place ≡ c.loop-at.at.place - 1 = omega (arith, c.lower-at.ensures.one_down) in (
      c.lower-at.ensures.below_weight,
      elim c.if-at-rest.branch [
        | then-at-rest w ↦ rw (w.form-is, w.push.ensures, w.rest-is, place) (taking_takes was.1 more weight w.if-at-rest.true)
        | else-at-rest w ↦ rw (w.form-is, w.rest-is, place) (taking_skips was.1 more weight w.if-at-rest.false)
      ],
    )

pub returns : goal.returns
returns c = taking_ends c.loop-at.invariant.1 c.loop-at-test.false

-- `height` meets its contract: its list passes the test of `fibonacci` Laws/Ranges, which antt computes, and the loop goes past the ranges that
-- end below r. The last ends with the largest number of 32 bits.
use Rattle.std.proofs.Common.{refl, arith}
use Rattle.fibonacci.specs.Fibonacci.{lucas}
use Rattle.fibonacci.proofs.Laws.Height.{height_32}
use Rattle.fibonacci.proofs.Laws.Ranges.{last_of, is_range, are_ranges, searching_starts, searching_next, searching_ends}
use Rattle.golden.proofs.height.Goals as goal

pub loop-row-init : goal.loop-row-init
unfolding are_ranges is_range last_of lucas
loop-row-init c = searching_starts c.args.r _ refl

pub returns-then-r-range : goal.returns-then-r-range
returns-then-r-range c = searching_ends c.loop-row.invariant (omega arith) (omega arith) c.if-r-range.true

pub loop-row-preserved : goal.loop-row-preserved
loop-row-preserved c = searching_next c.loop-row.invariant (omega arith) (omega arith) c.if-r-range.false

pub returns : goal.returns
returns c = absurd (omega (arith, c.loop-row.invariant.past, height_32 c.args.r (omega arith)))

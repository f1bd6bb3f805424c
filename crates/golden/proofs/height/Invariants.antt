-- `height` meets its contract: its list passes the test of `fibonacci` Laws/Ranges, which antt computes, and the loop goes past the ranges that
-- end below r. Past the first 46 h is 47, since no number of 32 bits has a larger one.
use Rattle.golden.specs.declared.TheConstants.{RANGES}
use Rattle.fibonacci.proofs.Laws.Ranges.{Searching}
use Rattle.golden.proofs.height.Given as goal

abbrev pub invariant-loop-row : goal.invariant-loop-row
invariant-loop-row l = Searching l.r RANGES l.row

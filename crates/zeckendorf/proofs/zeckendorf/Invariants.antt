-- `zeckendorf` meets its contract: the loop takes the places of the greedy form, highest first (Laws/Taking).
use Rattle.fibonacci.specs.Inner.Weights.{IsWeight}
use Rattle.fibonacci.proofs.Laws.Taking.{Taking}
use Rattle.zeckendorf.proofs.zeckendorf.Given as goal

abbrev pub invariant-loop-at : goal.invariant-loop-at
invariant-loop-at l = IsWeight l.at × Taking l.n l.form l.rest l.at.place

abbrev pub decreases-loop-at : goal.decreases-loop-at
decreases-loop-at l = l.at.place

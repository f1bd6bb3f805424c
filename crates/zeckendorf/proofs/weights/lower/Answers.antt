-- `weights::lower` meets its contract: the weight below is the difference, by the recurrence.
use native.Mathlib.Omega.{arith}
use Rattle.fibonacci.proofs.Laws.Weights.{weighs_lower, below_at_most}
use Rattle.zeckendorf.proofs.weights.lower.Goals as goal

pub overflow_sub-result-2 : goal.overflow_sub-result-2
overflow_sub-result-2 c = below_at_most c.requires.weight

pub returns : goal.returns
returns c = record {
  below_weight = weighs_lower c.requires.weight c.requires.place_nonzero;
  one_down = omega (arith, c.requires.place_nonzero);
}

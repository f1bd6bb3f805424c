-- `weights::high_enough` meets its contract: n is below the weight above the place for its count of bits (Laws/Weights), and the weights are
-- the table's.
use native.Mathlib.Omega.{arith}
use lib.Count.{leading_le}
use Rattle.fibonacci.proofs.Laws.Weights.{place_for_lem, weighs_at}
use Rattle.zeckendorf.proofs.weights.high_enough.Goals as goal

pub overflow_sub-place : goal.overflow_sub-place
overflow_sub-place c = leading_le 64 _

pub returns : goal.returns
returns c = record {
  weight = weighs_at (omega arith) c.fibonacci_or_zero.ensures c.fibonacci_or_zero-2.ensures;
  place_bound = omega arith;
  n_bound = place_for_lem _ (omega arith);
}

-- `numbers_fit` meets its contract: its tests are the definition's, in its order.
use Rattle.std.proofs.Common.{rules}
use Rattle.tape.specs.Layout.{numbers_fit}
use Rattle.laying.proofs.numbers_fit.Goals as goal

pub returns-then-h-lt-NUMBER_LIMIT-3 : goal.returns-then-h-lt-NUMBER_LIMIT-3
unfolding numbers_fit
returns-then-h-lt-NUMBER_LIMIT-3 c = search rules

pub returns-else-h-lt-NUMBER_LIMIT-3 : goal.returns-else-h-lt-NUMBER_LIMIT-3
unfolding numbers_fit
returns-else-h-lt-NUMBER_LIMIT-3 c = search rules

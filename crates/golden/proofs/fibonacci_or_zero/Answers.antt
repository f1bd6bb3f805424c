-- `fibonacci_or_zero` meets its contract: 0 stands for what does not fit.
use Rattle.std.proofs.Common.{ap, ◌∙◌}
use Rattle.std.specs.Option.{unwrap_or}
use Rattle.fibonacci.proofs.Laws.Tables.{fibonacci_of_or_zero}
use Rattle.golden.proofs.fibonacci_or_zero.Goals as goal

pub returns : goal.returns
returns c = c.unwrap_or.ensures ∙ ap (λ o. unwrap_or o 0) c.fibonacci_of.ensures ∙ fibonacci_of_or_zero _

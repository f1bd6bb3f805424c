-- `inverse_or_zero` meets its contract: 0 stands for none.
use Rattle.std.proofs.Common.{ap, ◌∙◌}
use Rattle.std.specs.Option.{unwrap_or}
use Rattle.modular.proofs.Laws.Inverses.{nonzero_or_zero}
use Rattle.modular.proofs.inverse_or_zero.Goals as goal

pub returns : goal.returns
returns c = c.unwrap_or.ensures ∙ ap (λ o. unwrap_or o 0) c.inverse_of.ensures ∙ nonzero_or_zero _

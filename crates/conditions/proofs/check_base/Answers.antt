-- `check_base` meets its contract: the rules of a row of one are those of its base.
use mathlib.Core.Path.{◌∙◌}
use Rattle.sequencer.proofs.Laws.Bases.{row_one}
use Rattle.conditions.proofs.check_base.Goals as goal

pub returns : goal.returns
returns c = c.check_bases.ensures ∙ row_one _ _ 0

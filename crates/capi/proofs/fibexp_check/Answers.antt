-- `fibexp_check` meets its contract: the number is that of check's answer.
use mathlib.Core.Path.{ap, ◌∙◌}
use Rattle.refusal.specs.Outcomes.{refusal_number}
use Rattle.refusal.proofs.Laws.Exits.{verdict_number}
use Rattle.capi.proofs.fibexp_check.Goals as goal

pub returns : goal.returns
returns c = c.number_of.ensures ∙ verdict_number _ ∙ ap refusal_number c.check.ensures

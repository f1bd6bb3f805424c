-- `fibexp_raise` meets its contract: the number and the row are the service's.
use mathlib.Core.Path.{ap, ◌∙◌}
use Rattle.refusal.specs.Outcomes.{refusal_number}
use Rattle.refusal.proofs.Laws.Exits.{verdict_number}
use Rattle.capi.proofs.fibexp_raise.Goals as goal

pub returns : goal.returns
returns c =
    record {
      value = c.number_of.ensures ∙ verdict_number _ ∙ ap refusal_number c.raise.ensures.result_value;
      bases_after = c.raise.ensures.bases_after;
    }

-- `is_bad_variant` meets its contract: a number that names a variant is in the table, and one that names none is not.
use Rattle.std.proofs.Common.{◌∙◌}
use Rattle.named.proofs.Laws.Parameters.{names_bad}
use Rattle.parameters.proofs.is_bad_variant.Goals as goal

pub returns : goal.returns
returns c = c.is_err.ensures.value ∙ names_bad _ _ c.try_from.ensures

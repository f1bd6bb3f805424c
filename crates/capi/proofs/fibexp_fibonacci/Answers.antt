-- `fibexp_fibonacci` meets its contract: what is stored is the service's answer.
use Rattle.std.proofs.Common.{◌∙◌}
use Rattle.capi.proofs.Laws.Storing.{stored, as_it_is}
use Rattle.capi.proofs.fibexp_fibonacci.Goals as goal

pub returns : goal.returns
returns c =
    let both = stored _ (as_it_is _ ∙ c.fibonacci.ensures) (c.store.ensures.value, c.store.ensures.place_after) in
    record { value = both.0; value_after = both.1 }

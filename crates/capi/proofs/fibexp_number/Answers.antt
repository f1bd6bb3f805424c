-- `fibexp_number` meets its contract: what is stored is the service's answer.
use Rattle.std.proofs.Common.{◌∙◌}
use Rattle.capi.proofs.Laws.Storing.{stored, as_it_is}
use Rattle.capi.proofs.fibexp_number.Goals as goal

pub returns : goal.returns
returns c =
    let both = stored _ (as_it_is _ ∙ c.number_of_places.ensures) (c.store.ensures.value, c.store.ensures.place_after) in
    record { value = both.0; n_after = both.1 }

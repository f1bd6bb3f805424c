-- `fibexp_trace` meets its contract: what is stored is the service's answer.
use Rattle.capi.proofs.Laws.Storing.{stored}
use Rattle.capi.proofs.fibexp_trace.Goals as goal

pub returns : goal.returns
returns c =
    let both = stored _ c.trace.ensures.result_value (c.store.ensures.value, c.store.ensures.place_after) in
    record { value = both.0; exponents_after = both.1 }

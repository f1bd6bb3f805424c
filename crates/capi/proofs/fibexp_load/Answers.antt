-- `fibexp_load` meets its contract: what is stored is the service's answer.
use Rattle.sequencer.specs.Records.{record_of, row_of}
use Rattle.capi.proofs.Laws.Storing.{stored_row}
use Rattle.capi.proofs.fibexp_load.Goals as goal

pub returns : goal.returns
returns c =
    let both = stored_row record_of row_of _ _ c.load.ensures (c.store.ensures.value, c.store.ensures.place_after) in
    record { value = both.0; row_after = both.1 }

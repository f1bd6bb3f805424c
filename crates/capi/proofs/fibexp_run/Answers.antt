-- `fibexp_run` meets its contract: the record that run gets is that of the row, and what is stored is its answer.
use Rattle.sequencer.specs.Records.{record_of, row_of}
use Rattle.capi.proofs.Laws.Storing.{stored_row}
use Rattle.capi.proofs.fibexp_run.Goals as goal

pub returns : goal.returns
returns c =
    let is = rw c.record_in-held.ensures at c.run.ensures in
    let stores = c.store.ensures in
    let both = stored_row record_of row_of _ _ is (stores.value, stores.place_after) in
    record { value = both.0; row_after = both.1 }

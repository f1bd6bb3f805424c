-- `fibexp_table` meets its contract: what is stored is the service's answer.
use Rattle.tables.specs.Tables.{matrix_of, row_by_row}
use Rattle.capi.proofs.Laws.Storing.{stored_row}
use Rattle.capi.proofs.fibexp_table.Goals as goal

pub returns : goal.returns
returns c =
    let both = stored_row matrix_of row_by_row _ _ c.table.ensures.result_value (c.store.ensures.value, c.store.ensures.place_after) in
    record { value = both.0; table_after = both.1 }

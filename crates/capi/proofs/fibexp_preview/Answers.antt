-- `fibexp_preview` meets its contract: the record that the preview gets is that of the row, and what is stored is its answer.
use Rattle.capi.proofs.fibexp_preview.Goals as goal

pub returns : goal.returns
returns c = rw (c.preview.ensures, c.record_in-held.ensures) at c.store_preview.ensures

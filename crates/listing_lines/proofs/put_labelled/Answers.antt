-- `put_labelled` meets its contract: the label, then the number with its byte.
use Rattle.std.proofs.Common.{◌∷◌, []}
use Rattle.text.specs.Text.{decimal}
use Rattle.putting.proofs.Laws.Buffers.{puts_then}
use Rattle.listing_lines.proofs.put_labelled.Goals as goal

pub returns : goal.returns
returns c = puts_then (decimal c.args.n) (c.args.last ∷ []) c.put.ensures c.put_number_then.ensures

-- `put_number_then` meets its contract: the number, then the byte.
use Rattle.putting.proofs.Laws.Buffers.{puts_both}
use Rattle.putting.proofs.Buffer.put_number_then.Goals as goal

pub returns : goal.returns
returns c = puts_both c.put_number.ensures c.put_byte.ensures

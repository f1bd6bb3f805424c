-- `put_then` meets its contract: the text, then the byte.
use Rattle.putting.proofs.Laws.Buffers.{puts_both}
use Rattle.putting.proofs.Buffer.put_then.Goals as goal

pub returns : goal.returns
returns c = puts_both c.put.ensures c.put_byte.ensures

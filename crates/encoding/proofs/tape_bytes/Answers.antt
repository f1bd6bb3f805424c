-- `tape_bytes` meets its contract: with so many words put, the bytes of those stand in the buffer.
use Rattle.putting.proofs.Laws.Buffers.{puts_none, puts_both}
use Rattle.encoding.specs.Encoding.{bytes_of}
use Rattle.encoding.proofs.Laws.Bytes.{bytes_more}
use Rattle.encoding.proofs.tape_bytes.Goals as goal

pub loop-word-init : goal.loop-word-init
unfolding bytes_of
loop-word-init c = puts_none _

pub loop-word-preserved : goal.loop-word-preserved
loop-word-preserved c =
    rw (bytes_more c.args.words.now c.loop-word.word-index c.loop-word-test.true)
    (puts_both c.loop-word.invariant (rw c.to_le_bytes.ensures at c.put.ensures))

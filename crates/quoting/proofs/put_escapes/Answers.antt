-- `put_escapes` meets its contract: with so many bytes put, those stand in the buffer, escaped.
use Rattle.text.specs.Quoting.{escapes}
use Rattle.text.proofs.Laws.Quoting.{escapes_more}
use Rattle.putting.proofs.Laws.Buffers.{puts_none, puts_both}
use Rattle.quoting.proofs.put_escapes.Goals as goal

pub loop-byte-init : goal.loop-byte-init
unfolding escapes
loop-byte-init c = puts_none _

pub loop-byte-preserved : goal.loop-byte-preserved
loop-byte-preserved c =
    rw (escapes_more c.args.bytes.now c.loop-byte.byte-index c.loop-byte-test.true) (puts_both c.loop-byte.invariant c.put_escaped.ensures)

-- `writer::Writer::draw` meets its contract: what comes before the last loop, then that loop.
use Rattle.building.proofs.Writing.{writes_more}
use Rattle.building.proofs.writer.Writer.draw.Goals as goal

pub returns : goal.returns
returns c =
    rw (← c.bits.ensures, ← c.bits-2.ensures, ← c.bits-3.ensures, ← c.bits-beside_last.ensures) (writes_more c.front.ensures c.ascend_back.ensures)

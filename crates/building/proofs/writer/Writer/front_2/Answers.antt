-- `writer::Writer::front_2` meets its contract: one part after another.
use Rattle.tape.specs.Words.{step_word}
use Rattle.building.proofs.Writing.{writes_more}
use Rattle.building.proofs.writer.Writer.front_2.Goals as goal

pub returns : goal.returns
unfolding step_word
returns c = writes_more c.ascend.ensures (writes_more c.ascend_back.ensures (writes_more c.put.ensures c.ascend-2.ensures))

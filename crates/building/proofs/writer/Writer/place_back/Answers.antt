-- `writer::Writer::place_back` meets its contract: the words of the place, one after another.
use Rattle.tape.specs.Words.{step_word}
use Rattle.program.proofs.Laws.Writing.{back_words_lem}
use Rattle.building.proofs.Writing.{writes_more}
use Rattle.building.proofs.writer.Writer.place_back.Goals as goal

pub returns : goal.returns
unfolding step_word
returns c =
    rw (back_words_lem _ _)
    (writes_more c.put_if.ensures (writes_more c.put_if-2.ensures (writes_more c.put.ensures c.put-2.ensures)))

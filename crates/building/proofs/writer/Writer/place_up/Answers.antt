-- `writer::Writer::place_up` meets its contract: the words of the place, one after another.
use Rattle.tape.specs.Words.{step_word}
use Rattle.program.proofs.Laws.Writing.{up_words_lem}
use Rattle.building.proofs.Writing.{writes_more}
use Rattle.building.proofs.writer.Writer.place_up.Goals as goal

pub returns : goal.returns
unfolding step_word
returns c =
    rw (up_words_lem _ _)
    (writes_more c.put.ensures (writes_more c.put-2.ensures (writes_more c.put_if.ensures c.put_if-2.ensures)))

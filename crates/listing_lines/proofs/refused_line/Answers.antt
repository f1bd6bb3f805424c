-- `refused_line` meets its contract: the word, then the number.
use Rattle.putting.proofs.Laws.Lines.{puts_word, puts_last}
use Rattle.listing_lines.proofs.refused_line.Goals as goal

pub returns : goal.returns
returns c = puts_word _ _ _ c.put_then.ensures (puts_last _ c.put_number_then.ensures)

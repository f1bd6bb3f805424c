-- `put_count` meets its contract: the least count where there are several, the most, and a word.
use borrow.Author.Tests.{eq-eqb, ne_eqb}
use Rattle.putting.proofs.Laws.Buffers.{puts_both}
use Rattle.tool.specs.Texts.{count_text}
use Rattle.complaints.proofs.put_count.Goals as goal

pub returns-then-most-eq1 : goal.returns-then-most-eq1
unfolding count_text
returns-then-most-eq1 c = rw (eq-eqb c.args.most 1 c.if-most-eq1.true) (puts_both (puts_both c.put_from.ensures c.put_number.ensures) c.put.ensures)

pub returns : goal.returns
unfolding count_text
returns c = rw (ne_eqb c.args.most 1 c.if-most-eq1.false) (puts_both (puts_both c.put_from.ensures c.put_number.ensures) c.put-2.ensures)

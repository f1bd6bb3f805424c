-- `put_from` meets its contract: nothing, or the least count and a word.
use borrow.Author.Tests.{eq-eqb, ne_eqb}
use Rattle.putting.proofs.Laws.Buffers.{puts_none, puts_both}
use Rattle.tool.specs.Texts.{from_text}
use Rattle.complaints.proofs.put_from.Goals as goal

pub returns-then-least-most : goal.returns-then-least-most
unfolding from_text
returns-then-least-most c = let args = c.args in rw (eq-eqb args.least args.most c.if-least-most.true) (puts_none _)

pub returns : goal.returns
unfolding from_text
returns c = let args = c.args in rw (ne_eqb args.least args.most c.if-least-most.false) (puts_both c.put_number.ensures c.put.ensures)

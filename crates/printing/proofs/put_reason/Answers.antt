-- `put_reason` meets its contract: the reason is the word of the refusal's number, in the service's own table or in that of all.
use borrow.Author.Tests.{eq-eqb, ne_eqb}
use mathlib.Core.List.{[], map}
use mathlib.Core.Path.{◌≡◌}
use lib.ListN.{get_or}
use Rattle.refusal.specs.Reasons.{reasons, own_reasons}
use Rattle.text.specs.Text.{ascii}
use Rattle.text.specs.Reading.{split_words}
use Rattle.tool.specs.Texts.{reason_for}
use Rattle.printing.proofs.put_reason.Goals as goal
use Rattle.printing.proofs.put_reason.Goals.{After-nth_word, After-nth_word-2}

-- the code's tables have the texts of the definitions
own_reason : (c : After-nth_word) → c.nth_word.result.now ≡ get_or (map ascii own_reasons) c.args.number []
unfolding own_reasons split_words
own_reason c = c.nth_word.ensures

pub returns-then-number-own : goal.returns-then-number-own
unfolding reason_for
returns-then-number-own c = let args = c.args in rw (eq-eqb args.number args.own c.if-number-own.true) (rw (own_reason (goal.at.returns-then-number-own c).After-nth_word) at c.put_then.ensures)

reason : (c : After-nth_word-2) → c.nth_word-2.result.now ≡ get_or (map ascii reasons) c.args.number []
unfolding reasons split_words
reason c = c.nth_word-2.ensures

pub returns : goal.returns
unfolding reason_for
returns c = let args = c.args in rw (ne_eqb args.number args.own c.if-number-own.false) (rw (reason (goal.at.returns c).After-nth_word-2) at c.put_then-2.ensures)

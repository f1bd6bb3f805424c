-- `nth_word` meets its contract: the words of what is left are those from the counter's index on.
use Rattle.std.proofs.Common.{◌≡◌, arith, length}
use Rattle.text.proofs.Laws.Words.{words_end, words_next, words_at}
use Rattle.parsing.proofs.nth_word.Goals as goal

pub returns-then-is_empty : goal.returns-then-is_empty
returns-then-is_empty c =
    let none : length c.loop.rest.now ≡ 0 = grind arith in
    words_end _ c.loop.rest.now c.loop.counter c.loop.invariant none c.args.index (omega arith)

pub loop-preserved : goal.loop-preserved
loop-preserved c = grind (arith, words_next)

pub returns : goal.returns
returns c = grind (arith, words_at)

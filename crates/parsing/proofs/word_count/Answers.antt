-- `word_count` meets its contract: the words counted and those of what is left are all.
use Rattle.std.proofs.Common.{arith, rules, ◌<◌, length}
use Rattle.text.proofs.Laws.Words.{words_fit, words_some, words_none, past_less}
use Rattle.parsing.proofs.word_count.Goals as goal

pub overflow_add-count : goal.overflow_add-count
overflow_add-count c =
    let some : 0 < length c.loop-rest.rest.now = search rules in
    grind (arith, words_fit, words_some)

pub loop-rest-smaller : goal.loop-rest-smaller
loop-rest-smaller c =
    let some : 0 < length c.loop-rest.rest.now = search rules in
    grind (arith, past_less)

pub loop-rest-preserved : goal.loop-rest-preserved
loop-rest-preserved c =
    let some : 0 < length c.loop-rest.rest.now = search rules in
    grind (arith, words_some)

pub returns : goal.returns
returns c = grind (arith, words_none)

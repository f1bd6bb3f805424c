-- `words::split_word` meets its contract: no byte in front of the zero byte that is found is 0.
use Rattle.std.proofs.Common.{◌≡◌, ◌+◌, ◌-◌, ◌∙◌, rules, arith, length, drop, take_all, length-drop, add-one}
use Rattle.text.proofs.Laws.Words.{NoZero, word_ends, word_alone}
use Rattle.text.specs.Reading.{past_word}
use Rattle.parsing.proofs.words.split_word.Goals as goal

pub returns-in-Some-clause-word : goal.returns-in-Some-clause-word
returns-in-Some-clause-word c = (word_ends _ _ (search rules) (search rules) (search rules)).0

pub returns-in-Some-clause-rest : goal.returns-in-Some-clause-rest
returns-in-Some-clause-rest c =
    let bytes = c.args.bytes.now in
    let past = c.in-Some.end + 1 in
    let none : NoZero bytes c.in-Some.end = search rules in
    let rest : drop past bytes ≡ past_word bytes = rw (add-one c.in-Some.end) ((word_ends bytes c.in-Some.end (search rules) (search rules) none).1) in
    take_all (length bytes - past) (drop past bytes) (omega (arith, length-drop past bytes)) ∙ rest

pub returns-in-None-clause-word : goal.returns-in-None-clause-word
returns-in-None-clause-word c = (word_alone _ (search rules)).0

pub returns-in-None-clause-rest : goal.returns-in-None-clause-rest
returns-in-None-clause-rest c = (word_alone _ (search rules)).1

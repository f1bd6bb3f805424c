-- `nth_word` meets its contract: the words of what is left are those from the counter's index on.
use Rattle.std.proofs.Common.{◌≡◌, drop}
use Rattle.text.specs.Reading.{split_words}
use Rattle.parsing.proofs.nth_word.Given as goal

abbrev pub invariant-loop : goal.invariant-loop
invariant-loop l = split_words l.rest ≡ drop l.counter (split_words l.arguments)

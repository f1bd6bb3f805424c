-- `first_line` meets its contract: the variant's name, which the table of names gives, and the labelled numbers, one after another.
use mathlib.Core.Path.{◌≡◌}
use Rattle.text.specs.Reading.{split_words}
use Rattle.named.specs.Named.{variant_name}
use Rattle.putting.proofs.Laws.Lines.{puts_word, puts_last}
use Rattle.listing_lines.proofs.first_line.Goals as goal
use Rattle.listing_lines.proofs.first_line.Goals.{After-nth_word}

name : (c : After-nth_word) → c.nth_word.result.now ≡ variant_name c.args.header.variant
unfolding split_words
name c = c.nth_word.ensures

pub returns : goal.returns
returns c =
    puts_word _ _ _ (rw (name (goal.at.returns c).After-nth_word) at c.put_then.ensures)
    (puts_word _ _ _ c.put_labelled.ensures
    (puts_word _ _ _ c.put_labelled-2.ensures
    (puts_word _ _ _ c.put_labelled-3.ensures (puts_last _ c.put_labelled-4.ensures))))

-- `place_of` meets its contract: no name in front of the one that is found is the word.
use Rattle.std.proofs.Common.{◌≡◌, ℕ, [], rules, get_or}
use Rattle.std.proofs.lemmas.Iterator.{first_from_Range}
use Rattle.std.specs.Cmp.Lexicographic.{same_text, other_text}
use Rattle.text.specs.Reading.{split_words}
use Rattle.tool.proofs.Laws.Verbs.{placed}
use Rattle.arguments.proofs.place_of.Goals as goal

pub returns : goal.returns
returns c =
    let word = c.args.word.now in
    let words = split_words c.args.names.now in
    let Is : ℕ → Type 0 = λ i. get_or words i [] ≡ word in
    let first = first_from_Range _ _ _ c.find.result Is (λ i. Is i → ⊥) c.find.ensures.ran (λ x q h. search (rules, same_text)) (λ x q h. search (rules, other_text)) in
    placed word words c.word_count.result c.word_count.ensures c.find.result first

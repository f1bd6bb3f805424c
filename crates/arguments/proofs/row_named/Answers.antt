-- `row_named` meets its contract: the code's names and rows are those of the table.
use Rattle.std.proofs.Common.{◌≡◌, refl, sym, ap, ◌∙◌, ℕ, List, Option, Some, None, Bor, length, slice_get}
use Rattle.std.specs.Slice.{IsItemAt}
use Rattle.std.specs.Option.{option_copied}
use Rattle.std.proofs.lemmas.Option.{slice_get_past, slice_get_read}
use Rattle.text.specs.Reading.{split_words}
use Rattle.tool.specs.Verbs.{entries, names, rows, row_named}
use Rattle.tool.specs.Inner.Understood.{Placed}
use Rattle.tool.proofs.Laws.Verbs.{row_nowhere}
use Rattle.arguments.proofs.row_named.Goals as goal
use Rattle.arguments.proofs.row_named.Goals.{After-place_of}

copied_item : {X : Type 0} (xs : List X) (i : ℕ) (r : Option (Bor X)) → IsItemAt xs i r → option_copied r ≡ slice_get xs i
copied_item xs i None h = sym (slice_get_past xs i h.3)
copied_item xs i (Some x) h = sym (slice_get_read xs (length xs) i x.now refl h.3.0 h.1)

-- it is placed among the table's names
placed : (c : After-place_of) → Placed c.args.name.now names c.place_of.result
unfolding names entries split_words
placed c = c.place_of.ensures

pub returns-in_err-place : goal.returns-in_err-place
returns-in_err-place c =
    let past = rw c.in_err-place.was at (placed (goal.at.returns-in_err-place c).After-place_of) in
    c.from_residual.ensures ∙ sym (row_nowhere _ past)

pub returns : goal.returns
unfolding row_named rows entries
returns c =
    let place = c.in_ok-place.place in
    let found = rw c.in_ok-place.was at (placed (goal.at.returns c).After-place_of) in
    let item : IsItemAt rows place c.get.result = c.get.ensures.lookup in
    c.copied.ensures ∙ copied_item rows place c.get.result item ∙ ap (slice_get rows) found.1

-- `understand` meets its contract: each test on the way is the definition's, on the row that the table has for the first word.
use mathlib.Core.Path.{◌≡◌, sym, ap, ◌∙◌}
use mathlib.Core.List.{List, []}
use Prim.Native.Nat.{ℕ, ◌-◌, ◌≤◌, ◌<◌}
use native.Mathlib.Omega.{arith}
use lib.ListN.{length, get_or}
use Rattle.text.specs.Reading.{split_words}
use Rattle.tool.specs.declared.Row.{Row}
use Rattle.tool.specs.Verbs.{row_named, limit_of, max_parameters, largest64}
use Rattle.tool.specs.Inner.Understood.{Miscounted, Countable}
use Rattle.tool.proofs.Laws.Verbs.{row_largest, row_least, row_most, name_short}
use Rattle.tool.proofs.Laws.Calls.{asked_none, asked_other, asked_hidden, asked_few, asked_many, asked_taken}
use Rattle.arguments.proofs.understand.Goals as goal
use Rattle.arguments.proofs.understand.Goals.{In-Some, then-given-row-via-then-given-row, then-given-row-via-else-given-row+then-row-given}
use Rattle.tool.specs.Calls.{wrong_count, asked_by}
use Rattle.std.specs.Prelude.{Some}

-- the row is the table's
module _ (words : List (List ℕ)) (row : Row) (named : row_named (get_or words 0 []) ≡ Some row) where
  largest : row.largest ≤ limit_of row.verb
  largest = row_largest (get_or words 0 []) row named

  least : row.least ≤ max_parameters
  least = row_least (get_or words 0 []) row named

  most : row.most ≤ max_parameters
  most = row_most (get_or words 0 []) row named

  miscounted : (given : ℕ) → given ≤ largest64 → Miscounted (get_or words 0 []) row given
  miscounted given fits = record { name = name_short (get_or words 0 []) row named; least = least; most = most; count = fits }

  countable : {given : ℕ} → given ≡ length words - 1 → given ≤ row.most → Countable row words given
  countable count few = record { few = omega (arith, most); all = count; largest = largest }

pub returns-then-words-eq0 : goal.returns-then-words-eq0
returns-then-words-eq0 c =
    let none = sym c.word_count-words.ensures ∙ c.if-words-eq0.true in
    rw c.without_parameters.ensures.is (record { asked = sym (asked_none _ _ none); in_range = omega arith; size = c.without_parameters.ensures.size })

pub returns-in_default : goal.returns-in_default
returns-in_default c =
    let none = sym (c.row_named.ensures ∙ ap row_named c.nth_word.ensures) ∙ c.in_default.is in
    rw c.without_parameters-in_default.ensures.is
    (record { asked = sym (asked_other _ _ (omega (arith, c.word_count-words.ensures)) none); in_range = omega arith; size = c.without_parameters-in_default.ensures.size })

-- the row is that of the first word
row : (c : In-Some) → row_named (get_or (split_words c.args.arguments.now) 0 []) ≡ Some c.in-Some.row
row c = sym (c.row_named.ensures ∙ ap row_named c.nth_word.ensures) ∙ c.in-Some.is

pub returns-then-is_hidden : goal.returns-then-is_hidden
returns-then-is_hidden c =
    let hidden = sym c.is_hidden.ensures ∙ c.if-is_hidden.true in
    rw c.without_parameters-then-is_hidden.ensures.is
    (record { asked = sym (asked_hidden _ _ (omega (arith, c.word_count-words.ensures)) _ (row (goal.at.returns-then-is_hidden c).In-Some) hidden); in_range = omega arith; size = c.without_parameters-then-is_hidden.ensures.size })

pub returns-then-given-row : goal.returns-then-given-row
returns-then-given-row c =
    let words = split_words c.args.arguments.now in
    let named = row (goal.at.returns-then-given-row c).In-Some in
    let some : 0 < length words = omega (arith, c.word_count-words.ensures) in
    let seen = sym c.is_hidden.ensures ∙ c.if-is_hidden.false in
    let count = ap (λ (n : ℕ). n - 1) c.word_count-words.ensures in
    let told : asked_by c.args.in_script words ≡ wrong_count (get_or words 0 []) c.in-Some.row (length words - 1) =
    elim c.then-given-row.branch [
      | then-given-row-via-then-given-row w ↦ asked_few _ _ some _ named seen (rw (← count) w.if-given-row.true)
      | then-given-row-via-else-given-row+then-row-given w ↦
          asked_many _ _ some _ named seen (rw (← count) w.if-given-row.false) (rw (← count) w.if-row-given.true)
    ] in
    let fits : c.word_count-words.result - 1 ≤ largest64 = omega (arith, c.word_count-words.type_inv) in
    rw c.without_parameters-then-given-row.ensures.is
    (record { asked = rw count (sym told); in_range = miscounted words _ named _ fits; size = c.without_parameters-then-given-row.ensures.size })

pub parameters-requires : goal.parameters-requires
parameters-requires c =
    countable _ _ (row (goal.at.parameters-requires c).In-Some) (ap (λ (n : ℕ). n - 1) c.word_count-words.ensures) c.if-row-given.false

pub returns : goal.returns
returns c =
    let seen = sym c.is_hidden.ensures ∙ c.if-is_hidden.false in
    let count = ap (λ (n : ℕ). n - 1) c.word_count-words.ensures in
    let taken = asked_taken _ _ (omega (arith, c.word_count-words.ensures)) _ (row (goal.at.returns c).In-Some) seen (rw (← count) c.if-given-row.false) (rw (← count) c.if-row-given.false) in
    record { asked = c.parameters.ensures.asked ∙ sym taken; in_range = c.parameters.ensures.in_range; size = c.parameters.ensures.size }

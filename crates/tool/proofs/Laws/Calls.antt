-- A command line read word by word: what is asked by the tests on the way, and the parameters one after another.
use mathlib.Core.Path.{◌≡◌, refl, sym, ap, ◌∙◌}
use mathlib.Core.Bool.{Bool, true, false}
use mathlib.Core.List.{List, [], ◌∷◌, ◌++◌, append_assoc, append-nil}
use Prim.Native.Nat.{ℕ, zero, suc, ◌+◌, ◌-◌, ◌≤◌, ◌<◌}
use native.Mathlib.Numerals.{add-one}
use native.Mathlib.Omega.{arith}
use borrow.Author.Tests.{le-leb, lt-leb}
use lib.ListN.{length, get_or, take, drop, set, drop_of_length-le, length-drop}
use lib.Seq.{take-suc-set, get_or-drop}
use Rattle.std.specs.Prelude.{Option, Some, None}
use Rattle.tape.proofs.Laws.Rows.{drop_next}
use Rattle.tool.specs.declared.Row.{Row}
use Rattle.tool.specs.Verbs.{row_named, is_hidden, limit_of, parameter_in}
use Rattle.tool.specs.Calls.{Numbers, all, stopped, prepend_parsed, numbers_from, no_word, no_verb, wrong_count, unread, with_numbers, asked_of, asked_by}
use Rattle.tool.specs.Inner.Held.{AllAtMost}

-- ---- what is asked

pub asked_none : (in_script : Bool) (words : List (List ℕ)) → length words ≡ 0 → asked_by in_script words ≡ no_word
unfolding asked_by
asked_none in_script [] h = refl
asked_none in_script (name ∷ words) h = absurd (omega arith)

module _ (in_script : Bool) (words : List (List ℕ)) (some : 0 < length words) where
  -- by the first word and those behind it
  asked_some : (ws : List (List ℕ)) → 0 < length ws → asked_by in_script ws ≡ asked_of in_script (row_named (get_or ws 0 [])) (get_or ws 0 []) (drop 1 ws)
  unfolding asked_by
  asked_some [] h = absurd (omega arith)
  asked_some (w ∷ ws) h = refl

  -- a word that has no row
  pub asked_other : row_named (get_or words 0 []) ≡ None → asked_by in_script words ≡ no_verb (get_or words 0 [])
  asked_other e = asked_some words some ∙ rw e refl

  module _ (row : Row) (named : row_named (get_or words 0 []) ≡ Some row) where
    by_row : asked_by in_script words ≡ asked_of in_script (Some row) (get_or words 0 []) (drop 1 words)
    by_row = asked_some words some ∙ ap (λ (r : Option Row). asked_of in_script r (get_or words 0 []) (drop 1 words)) named

    pub asked_hidden : is_hidden in_script row.verb ≡ true → asked_by in_script words ≡ no_verb (get_or words 0 [])
    asked_hidden h = by_row ∙ rw h refl

    module _ (seen : is_hidden in_script row.verb ≡ false) where
      given : length (drop 1 words) ≡ length words - 1
      given = length-drop 1 words

      pub asked_few : length words - 1 < row.least → asked_by in_script words ≡ wrong_count (get_or words 0 []) row (length words - 1)
      asked_few h = by_row ∙ rw (seen, given, lt-leb row.least (length words - 1) h) refl

      module _ (least : row.least ≤ length words - 1) where
        pub asked_many : row.most < length words - 1 → asked_by in_script words ≡ wrong_count (get_or words 0 []) row (length words - 1)
        asked_many h = by_row ∙ rw (seen, given, le-leb row.least (length words - 1) least, lt-leb (length words - 1) row.most h) refl

        pub asked_taken : length words - 1 ≤ row.most → asked_by in_script words ≡ with_numbers row (drop 1 words) (numbers_from row 0 (drop 1 words))
        asked_taken h = by_row ∙ rw (seen, given, le-leb row.least (length words - 1) least, le-leb (length words - 1) row.most h) refl

-- ---- the parameters

pub within_none : (most : ℕ) → AllAtMost most []
within_none most i = omega arith

within_last : (most n : ℕ) → n ≤ most → (values : List ℕ) → AllAtMost most values → AllAtMost most (values ++ n ∷ [])
within_last most n h [] w zero = h
within_last most n h [] w (suc i) = omega arith
within_last most n h (m ∷ values) w zero = w zero
within_last most n h (m ∷ values) w (suc i) = within_last most n h values (λ j. w (suc j)) i

-- numbers in front of others
abbrev pub in_front : List ℕ → Numbers → Numbers
in_front values (all more) = all (values ++ more)
in_front values (stopped place) = stopped place

none_front : (numbers : Numbers) → numbers ≡ in_front [] numbers
none_front (all values) = refl
none_front (stopped place) = refl

one_more : (values : List ℕ) (n place : ℕ) (numbers : Numbers) → in_front values (prepend_parsed (Some n) place numbers) ≡ in_front (values ++ n ∷ []) numbers
one_more values n place (all more) = ap all (sym (append_assoc values (n ∷ []) more))
one_more values n place (stopped other) = refl

module _ (row : Row) (words : List (List ℕ)) where
  -- the numbers from the first word after the verb on are those read so far, in front of those from the word at i + 1 on
  abbrev pub Sofar : ℕ → List ℕ → Type 0
  Sofar i values =
      (numbers_from row 0 (drop 1 words) ≡ in_front (take i values) (numbers_from row i (drop (i + 1) words))) × AllAtMost (limit_of row.verb) (take i values)

  pub at_first : (values : List ℕ) → Sofar 0 values
  at_first values = (none_front _, within_none (limit_of row.verb))

  from_here : (i : ℕ) → i + 1 < length words
      → numbers_from row i (drop (i + 1) words) ≡ prepend_parsed (parameter_in row i (get_or words (i + 1) [])) i (numbers_from row (i + 1) (drop (i + 1 + 1) words))
  unfolding numbers_from
  from_here i h = ap (numbers_from row i) (drop_next words (i + 1) (i + 1 + 1) [] refl h)

  module _ (i : ℕ) (values : List ℕ) (sofar : Sofar i values) where
    pub a_number : (n : ℕ) → i + 1 < length words → i < length values → parameter_in row i (get_or words (i + 1) []) ≡ Some n → n ≤ limit_of row.verb
        → Sofar (i + 1) (set values i n)
    a_number n h room e small =
        let rest = numbers_from row (i + 1) (drop (i + 1 + 1) words) in
        let longer : take (i + 1) (set values i n) ≡ take i values ++ n ∷ [] = rw (add-one i) (take-suc-set values i n room) in (
          sofar.0
              ∙ ap (in_front (take i values)) (from_here i h ∙ ap (λ (p : Option ℕ). prepend_parsed p i rest) e)
              ∙ one_more (take i values) n i rest
              ∙ ap (λ (l : List ℕ). in_front l rest) (sym longer),
          rw longer (within_last (limit_of row.verb) n small (take i values) sofar.1),
        )

    pub no_number : i + 1 < length words → parameter_in row i (get_or words (i + 1) []) ≡ None → numbers_from row 0 (drop 1 words) ≡ stopped i
    no_number h e =
        sofar.0
        ∙ ap (in_front (take i values)) (from_here i h ∙ ap (λ (p : Option ℕ). prepend_parsed p i (numbers_from row (i + 1) (drop (i + 1 + 1) words))) e)

    pub no_more : length words ≤ i + 1 → numbers_from row 0 (drop 1 words) ≡ all (take i values)
    unfolding numbers_from
    no_more h =
        sofar.0
        ∙ ap (λ (l : List (List ℕ)). in_front (take i values) (numbers_from row i l)) (drop_of_length-le words {i = i + 1} h)
        ∙ ap all (append-nil (take i values))

-- the word at an index behind the verb is the parameter of the place before it
pub unread_at : (row : Row) (words : List (List ℕ)) (i : ℕ) → unread (get_or words (i + 1) []) row (i + 1 - 1) ≡ with_numbers row (drop 1 words) (stopped i)
unread_at row words i =
    let place : i + 1 - 1 ≡ i = omega arith in
    let index : i + 1 ≡ 1 + i = omega arith in
    rw (place, index, ← get_or-drop 1 words i [])

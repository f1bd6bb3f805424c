-- The table of verbs: where a name stands, and what holds of every row.
use mathlib.Core.Path.{◌≡◌, refl, sym, ap, ◌∙◌}
use mathlib.Core.Bool.{Bool, true, false, ◌&&◌}
use mathlib.Core.List.{List, [], ◌∷◌}
use Prim.Native.Nat.{ℕ, zero, suc, ◌+◌, ◌≤◌, ◌<◌}
use native.Mathlib.Omega.{arith}
use borrow.Author.Tests.{leb-true, ltb-true, ltb-false}
use lib.Dec.{leb, ltb}
use lib.ListN.{length, get_or, take, drop}
use Rattle.refusal.proofs.Laws.Tests.{test_false, by_test, both}
use Rattle.std.specs.Prelude.{Option, Some, None, MatchOption, slice_get}
use Rattle.std.proofs.lemmas.Option.{slice_get_past}
use Rattle.text.specs.Reading.{Small, parse_number}
use Rattle.text.proofs.Laws.Digits.{number_small}
use Rattle.named.specs.Named.{variant_names}
use Rattle.program.specs.Same.{same_words}
use Rattle.program.proofs.Laws.Same.{same_itself, same_equal}
use Rattle.tool.specs.declared.NumberVerb.{NumberVerb}
use Rattle.tool.specs.declared.NumberVerb.TheVariants.{Decode, Fibonacci, Places, NumberOf, Hofstadter, Inverse, Height, Prime, MulMod, PowMod}
use Rattle.tool.specs.declared.ScriptVerb.{ScriptVerb}
use Rattle.tool.specs.declared.ScriptVerb.TheVariants.{Tape, Append, Change, Drop, Behind, Room}
use Rattle.tool.specs.declared.Verb.{Verb}
use Rattle.tool.specs.declared.Verb.TheVariants.{Build, Script, Help, Version, OnTape, OnNumbers, InScript}
use Rattle.tool.specs.declared.Row.{Row}
use Rattle.tool.specs.Verbs.{max_parameters, largest32, largest64, entries, names, rows, index_in, row_named, limit_on, limit_in, limit_of, is_variant, variant_in, parameter_in}
use Rattle.tool.specs.Inner.Kinds.{kind_rows}
use Rattle.tool.specs.Inner.Understood.{longest_name, Placed}

-- ---- where a name stands

module _ (word : List ℕ) where
  here : (one : List ℕ) (words : List (List ℕ)) → word ≡ one → index_in word (one ∷ words) ≡ 0
  unfolding index_in
  here one words e = rw (← e, same_itself word)

  past : (one : List ℕ) (words : List (List ℕ)) → ¬ (word ≡ one) → index_in word (one ∷ words) ≡ suc (index_in word words)
  unfolding index_in
  past one words e = rw (test_false (same_words word one) (λ t. e (same_equal word one t)))

  -- no word in front of an index is it
  abbrev Other : List (List ℕ) → ℕ → Type 0
  Other words i = (k : ℕ) → k < i → get_or words k [] ≡ word → ⊥

  later : (one : List ℕ) (words : List (List ℕ)) (i : ℕ) → Other (one ∷ words) (suc i) → Other words i
  later one words i other k h = other (suc k) (omega arith)

  placed_at : (words : List (List ℕ)) (i : ℕ) → i < length words → get_or words i [] ≡ word → Other words i → index_in word words ≡ i
  placed_at [] i h e other = absurd (omega arith)
  placed_at (one ∷ words) zero h e other = here one words (sym e)
  placed_at (one ∷ words) (suc i) h e other =
      past one words (λ f. other 0 (omega arith) (sym f)) ∙ ap suc (placed_at words i (omega arith) e (later one words i other))

  placed_nowhere : (words : List (List ℕ)) → Other words (length words) → length words ≤ index_in word words
  placed_nowhere [] other = omega arith
  placed_nowhere (one ∷ words) other =
      omega (arith, past one words (λ f. other 0 (omega arith) (sym f)), placed_nowhere words (later one words (length words) other))

  -- the first place of the word, found by going through them
  pub placed : (words : List (List ℕ)) (count : ℕ) → count ≡ length words → (r : Option ℕ)
      → MatchOption r ((k : ℕ) → 0 ≤ k → k < count → get_or words k [] ≡ word → ⊥)
      (λ i. (0 ≤ i) × (i < count) × (get_or words i [] ≡ word) × ((k : ℕ) → 0 ≤ k → k < i → get_or words k [] ≡ word → ⊥))
      → Placed word words r
  placed words count all None other = placed_nowhere words (λ k h. other k (omega arith) (omega arith))
  placed words count all (Some i) first =
      (omega (arith, first.1), sym (placed_at words i (omega (arith, first.1)) first.2 (λ k h. first.3 k (omega arith) h)))

  -- the name at the index that was found is the word
  abbrev Found : List (List ℕ) → Type 0
  Found words = index_in word words < length words → word ≡ get_or words (index_in word words) []

  found_here : (one : List ℕ) (words : List (List ℕ)) → same_words word one ≡ true → Found (one ∷ words)
  found_here one words same h = let e = same_equal word one same in rw (here one words e) e

  found_past : (one : List ℕ) (words : List (List ℕ)) → same_words word one ≡ false → Found words → Found (one ∷ words)
  found_past one words other found h =
      let differs : ¬ (word ≡ one) = λ e. let same = sym (same_itself word) ∙ ap (same_words word) e ∙ other in let z : ◌≡◌ {A = ℕ} 0 1 = cc in omega arith in
      let e = past one words differs in
      rw e (found (omega (arith, h, e)))

  pub name_found : (words : List (List ℕ)) → Found words
  name_found [] h = absurd (omega arith)
  name_found (one ∷ words) h = by_test (same_words word one) (λ yes. found_here one words yes h) (λ no. found_past one words no (name_found words) h)

-- ---- what holds of every row

abbrev all_rows : (Row → Bool) → List Row → Bool
all_rows test [] = true
all_rows test (row ∷ rows) = test row && all_rows test rows

row_test : (test : Row → Bool) (rows : List Row) → all_rows test rows ≡ true → (i : ℕ) (row : Row) → slice_get rows i ≡ Some row → test row ≡ true
row_test test [] all i row e = cc
row_test test (one ∷ rows) all zero row e =
    let same : one ≡ row = cc in
    rw (← same) ((both (test one) (all_rows test rows) all).0)
row_test test (one ∷ rows) all (suc i) row e = row_test test rows (both (test one) (all_rows test rows) all).1 i row e

-- no row lets a larger number in than its verb can do with, nor more parameters than there is room for
abbrev is_limited : Row → Bool
is_limited row = leb row.largest (limit_of row.verb) && (leb row.least max_parameters && leb row.most max_parameters)

limited : (name : List ℕ) (row : Row) → row_named name ≡ Some row → is_limited row ≡ true
unfolding row_named rows entries
limited name row e = row_test is_limited rows refl (index_in name names) row e

three : (a b c : Bool) → a && (b && c) ≡ true → (a ≡ true) × (b ≡ true) × (c ≡ true)
three a b c e = let p = both a (b && c) e in let q = both b c p.1 in (p.0, q.0, q.1)

module _ (name : List ℕ) (row : Row) (e : row_named name ≡ Some row) where
  tests : (leb row.largest (limit_of row.verb) ≡ true) × (leb row.least max_parameters ≡ true) × (leb row.most max_parameters ≡ true)
  tests = three _ _ _ (limited name row e)

  pub row_largest : row.largest ≤ limit_of row.verb
  row_largest = leb-true _ _ tests.0

  pub row_least : row.least ≤ max_parameters
  row_least = leb-true _ _ tests.1

  pub row_most : row.most ≤ max_parameters
  row_most = leb-true _ _ tests.2

-- ---- the names are short

abbrev all_short : List (List ℕ) → Bool
all_short [] = true
all_short (word ∷ words) = leb (length word) longest_name && all_short words

short_at : (words : List (List ℕ)) → all_short words ≡ true → (i : ℕ) → length (get_or words i []) ≤ longest_name
short_at [] all i = omega arith
short_at (word ∷ words) all zero = leb-true _ _ (both (leb (length word) longest_name) (all_short words) all).0
short_at (word ∷ words) all (suc i) = short_at words (both (leb (length word) longest_name) (all_short words) all).1 i

names_short : all_short names ≡ true
unfolding names entries
names_short = refl

as_many : length names ≡ length rows
unfolding names rows entries
as_many = refl

get_taken : {A : Type 0} (xs : List A) (count place : ℕ) → place < count → slice_get (take count xs) place ≡ slice_get xs place
get_taken xs zero place h = absurd (omega arith)
get_taken [] (suc count) place h = refl
get_taken (x ∷ xs) (suc count) zero h = refl
get_taken (x ∷ xs) (suc count) (suc place) h = get_taken xs count place (omega arith)

get_dropped : {A : Type 0} (xs : List A) (before place : ℕ) → slice_get (drop before xs) place ≡ slice_get xs (before + place)
get_dropped xs zero place = let e : 0 + place ≡ place = omega arith in rw e refl
get_dropped [] (suc before) place = refl
get_dropped (x ∷ xs) (suc before) place = let e : suc before + place ≡ suc (before + place) = omega arith in rw e (get_dropped xs before place)

-- a row of a kind is the table's, and past the table's end there is none
pub kind_row : (before count : ℕ) {place i : ℕ} → place < count → before + place ≡ i → slice_get (kind_rows before count) place ≡ slice_get rows i
kind_row before count {place} h e = rw (← e) (get_taken (drop before rows) count place h ∙ get_dropped rows before place)

-- a word that is no name has no verb
pub row_nowhere : (name : List ℕ) → length names ≤ index_in name names → row_named name ≡ None
unfolding row_named
row_nowhere name h = slice_get_past rows (index_in name names) (rw as_many at h)

pub name_short : (name : List ℕ) (row : Row) → row_named name ≡ Some row → length name ≤ longest_name
name_short name row e =
    by_test (ltb (index_in name names) (length names))
    (λ yes. let f = name_found name names (ltb-true _ _ yes) in rw f (short_at names names_short (index_in name names)))
    (λ no. absurd (nowhere (ltb-false _ _ no)))
  where
    nowhere : length names ≤ index_in name names → ⊥
    nowhere h = let none = row_nowhere name h in cc

-- ---- how a parameter is read

-- no verb can do with more than 64 bits
limit_on_lem : (verb : NumberVerb) → limit_on verb ≤ largest64
limit_on_lem Decode = omega arith
limit_on_lem Fibonacci = omega arith
limit_on_lem Places = omega arith
limit_on_lem NumberOf = omega arith
limit_on_lem Hofstadter = omega arith
limit_on_lem Inverse = omega arith
limit_on_lem Height = omega arith
limit_on_lem Prime = omega arith
limit_on_lem MulMod = omega arith
limit_on_lem PowMod = omega arith

limit_in_lem : (verb : ScriptVerb) → limit_in verb ≤ largest64
limit_in_lem Tape = omega arith
limit_in_lem Append = omega arith
limit_in_lem Change = omega arith
limit_in_lem Drop = omega arith
limit_in_lem Behind = omega arith
limit_in_lem Room = omega arith

pub limit_most : (verb : Verb) → limit_of verb ≤ largest64
limit_most (OnNumbers v) = limit_on_lem v
limit_most (InScript v) = limit_in_lem v
limit_most Build = omega arith
limit_most Script = omega arith
limit_most Help = omega arith
limit_most Version = omega arith
limit_most (OnTape v) = omega arith

-- only build has a variant, and it is a number of 32 bits
variant_limit_lem : (verb : Verb) (place : ℕ) → is_variant verb place ≡ true → limit_of verb ≡ largest32
variant_limit_lem Build place e = refl
variant_limit_lem Script place e = refl
variant_limit_lem Help place e = refl
variant_limit_lem Version place e = refl
variant_limit_lem (OnTape v) place e = refl
variant_limit_lem (OnNumbers v) place e = absurd (let z : ◌≡◌ {A = ℕ} 0 1 = cc in omega arith)
variant_limit_lem (InScript v) place e = absurd (let z : ◌≡◌ {A = ℕ} 0 1 = cc in omega arith)

variant_small : (word : List ℕ) → Small largest32 (variant_in word)
unfolding variant_in
variant_small word =
    by_test (ltb (index_in word variant_names) (length variant_names))
    (λ yes. let h = ltb-true (index_in word variant_names) (length variant_names) yes in rw yes (omega arith))
    (λ no. rw no (number_small largest32 word))

weaker : (most limit : ℕ) (p : Option ℕ) → most ≤ limit → Small most p → Small limit p
weaker most limit (Some n) h small = omega arith
weaker most limit None h small = omega arith

pub parameter_small : (row : Row) (place : ℕ) (word : List ℕ) → row.largest ≤ limit_of row.verb → Small (limit_of row.verb) (parameter_in row place word)
unfolding parameter_in
parameter_small row place word h =
    by_test (is_variant row.verb place)
    (λ yes. rw (yes, variant_limit_lem row.verb place yes) (variant_small word))
    (λ no. rw no (weaker row.largest (limit_of row.verb) (parse_number row.largest word) h (number_small row.largest word)))

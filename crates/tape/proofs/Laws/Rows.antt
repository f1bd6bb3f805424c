-- Rows of step words: the words of sound steps pass the test and give the steps back, and words that pass it are those of
-- their steps; the test from one word on, as a loop over the words makes it; and the step at a place.
use mathlib.Core.Path.{◌≡◌, refl, sym, ap, ◌∙◌}
use mathlib.Core.Bool.{true, false, ◌&&◌, and-false}
use mathlib.Core.List.{List, [], ◌∷◌, map}
use Prim.Native.Nat.{ℕ, zero, suc, ◌+◌, ◌-◌, ◌≤◌, ◌<◌}
use native.Mathlib.Omega.{arith}
use native.Mathlib.Decide.{dec_lt}
use lib.Dec.{leb, eqb}
use lib.ListN.{length, get_or, take, drop, length-map, length-take, length-drop, drop_of_length-le, get_or-eq_default, get_or-map}
use lib.Seq.{slice, length-slice, drop-cons, take-nil, drop-nil}
use borrow.Author.Tests.{le-leb, lt-leb, eqb-true}
use Rattle.tape.specs.declared.Step.{Step}
use Rattle.tape.specs.declared.Decoded.TheVariants.{Bad}
use Rattle.tape.specs.Steps.{AllSound}
use Rattle.tape.specs.Words.{decoded, step_word, encoded}
use Rattle.tape.specs.Layout.{header_words, other_words, part, step_count, step_index, step_words_of, sort_of, step_of, means_at, steps_in, all_steps}
use Rattle.refusal.proofs.Laws.Tests.{both}
use Rattle.tape.specs.Inner.Operations.{raw_step, raw_steps}
use Rattle.tape.proofs.Laws.Shapes.{raw_means}
use Rattle.tape.proofs.Laws.Words.{decoded_step, decoded_lawful, decoded_zero, step_sound, word_again}

-- ---- from words to steps and back

pub all_steps_sound : (words : List ℕ) → AllSound (steps_in words)
all_steps_sound [] = tt
all_steps_sound (w ∷ words) = (step_sound (decoded w) (decoded_lawful w), all_steps_sound words)

pub steps_words : (words : List ℕ) → all_steps words ≡ true → map step_word (steps_in words) ≡ words
unfolding all_steps encoded
steps_words [] e = refl
steps_words (w ∷ words) e =
    let t = both (eqb (sort_of (decoded w)) 5) (all_steps words) e in
    rw (word_again w (eqb-true (sort_of (decoded w)) 5 t.0) (λ z. omega arith), steps_words words t.1)

-- the steps that the words have in their digits
pub raw_steps_lem : (words : List ℕ) → all_steps words ≡ true → raw_steps words ≡ steps_in words
unfolding all_steps
raw_steps_lem [] e = refl
raw_steps_lem (w ∷ words) e =
    let t = both (eqb (sort_of (decoded w)) 5) (all_steps words) e in
    rw (raw_means w (eqb-true (sort_of (decoded w)) 5 t.0), raw_steps_lem words t.1)

-- ---- from steps to words and back

pub words_all_steps : (steps : List Step) → AllSound steps → all_steps (map step_word steps) ≡ true
unfolding all_steps
words_all_steps [] sound = refl
words_all_steps (x ∷ steps) sound = rw (decoded_step x sound.0) (words_all_steps steps sound.1)

pub words_steps : (steps : List Step) → AllSound steps → steps_in (map step_word steps) ≡ steps
words_steps [] sound = refl
words_steps (x ∷ steps) sound = rw (decoded_step x sound.0, words_steps steps sound.1)

-- ---- the test from a word on

module _ (words : List ℕ) (i : ℕ) (inside : i < length words) where
  steps_from_lem : all_steps (drop i words) ≡ (eqb (sort_of (decoded (get_or words i 0))) 5 && all_steps (drop (suc i) words))
  unfolding all_steps
  steps_from_lem = ap all_steps (drop-cons words i 0 inside)

  pub steps_stop : eqb (sort_of (decoded (get_or words i 0))) 5 ≡ false → all_steps (drop i words) ≡ false
  steps_stop other = steps_from_lem ∙ rw other

  pub steps_on : eqb (sort_of (decoded (get_or words i 0))) 5 ≡ true → all_steps (drop i words) ≡ all_steps (drop (i + 1) words)
  steps_on step = let next : suc i ≡ i + 1 = omega arith in steps_from_lem ∙ rw (step, next)

pub steps_end : (words : List ℕ) (i : ℕ) → length words ≤ i → all_steps (drop i words) ≡ true
unfolding all_steps
steps_end words i past = ap all_steps (drop_of_length-le words past)

-- ---- the step at a place

pub raw_count : (words : List ℕ) → length (raw_steps words) ≡ length words
raw_count words = length-map words raw_step

pub raw_nth : (words : List ℕ) (i : ℕ) → get_or (raw_steps words) i (raw_step 0) ≡ raw_step (get_or words i 0)
raw_nth words i = get_or-map raw_step words i 0

pub steps_nth : (words : List ℕ) (i : ℕ) → get_or (steps_in words) i (step_of (decoded 0)) ≡ step_of (decoded (get_or words i 0))
steps_nth words i = get_or-map (λ (w : ℕ). step_of (decoded w)) words i 0

pub words_count : (tape : List ℕ) → length (step_words_of tape) ≡ step_count tape
words_count tape = simp (length-drop, length-take) (omega arith)

pub words_none : (tape : List ℕ) → length tape < other_words → step_words_of tape ≡ []
words_none tape short = drop_of_length-le (take (4 + step_count tape) tape) {i = 4} (simp length-take (omega arith))

-- ---- the part of a row

module _ (row : List ℕ) (begin end : ℕ) where
  pub part_reversed : end < begin → part row begin end ≡ []
  unfolding part
  part_reversed h = rw (lt-leb begin end h)

  pub part_past : length row < end → part row begin end ≡ []
  unfolding part
  part_past h = rw (lt-leb end (length row) h, and-false (leb begin end))

  pub part_inside : begin ≤ end → end ≤ length row → part row begin end ≡ slice begin end row
  unfolding part
  part_inside h k = rw (le-leb begin end h, le-leb end (length row) k)

pub part_length : (row : List ℕ) (begin end : ℕ) → length (part row begin end) ≤ length row
part_length row begin end =
    elim (dec_lt end begin) [
      | yes h ↦ rw (part_reversed row begin end h) (omega arith)
      | no h ↦ elim (dec_lt (length row) end) [
        | yes k ↦ rw (part_past row begin end k) (omega arith)
        | no k ↦ let inside : end ≤ length row = omega arith in rw (part_inside row begin end (omega arith) inside, length-slice begin end row inside) (omega arith)
      ]
    ]

-- the elements from an index on: the one there, and those from the next on
pub drop_next : {A : Type 0} (l : List A) (i next : ℕ) (d : A) → next ≡ i + 1 → i < length l → drop i l ≡ get_or l i d ∷ drop next l
drop_next l i next d e h = let same : suc i ≡ next = omega arith in drop-cons l i d h ∙ ap (λ (n : ℕ). get_or l i d ∷ drop n l) same

-- a slice, taken from its beginning on
pub slice_from : (f t : ℕ) (l : List ℕ) → slice f t l ≡ take (t - f) (drop f l)
slice_from zero t l = let all : t ≡ t - 0 = omega arith in ap (λ (n : ℕ). take n l) all
slice_from (suc f) zero l = let none : 0 ≡ 0 - suc f = omega arith in drop-nil (suc f) ∙ ap (λ (n : ℕ). take n (drop (suc f) l)) none
slice_from (suc f) (suc t) [] = sym (take-nil (suc t - suc f))
slice_from (suc f) (suc t) (x ∷ l) =
    let less : t - f ≡ suc t - suc f = omega arith in slice_from f t l ∙ ap (λ (n : ℕ). take n (drop f l)) less

-- a tape's step words, taken from their beginning on
pub words_part : (tape : List ℕ) → other_words ≤ length tape → step_words_of tape ≡ take (length tape - 1 - header_words) (drop header_words tape)
words_part tape long =
    let end : step_index tape (step_count tape) ≡ length tape - 1 = omega arith in
    ap (λ (n : ℕ). slice header_words n tape) end ∙ slice_from header_words (length tape - 1) tape

-- past the tape a word is 0, which means nothing
pub means_past : (tape : List ℕ) (i : ℕ) → length tape ≤ i → means_at tape i ≡ Bad
means_past tape i past = ap decoded (get_or-eq_default tape 0 past) ∙ decoded_zero

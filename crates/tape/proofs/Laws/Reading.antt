-- Reading a tape by cases: its rules one after another, and the outcome by the length and the layout. Each law rewrites the
-- tests that are known.
use mathlib.Core.Path.{◌≡◌, ap, ◌∙◌}
use mathlib.Core.Bool.{true, false, not}
use mathlib.Core.List.{List, ◌∷◌}
use Prim.Native.Nat.{ℕ, ◌≤◌, ◌<◌}
use native.Mathlib.Omega.{arith}
use lib.Dec.{eqb, leb}
use lib.ListN.{length}
use borrow.Author.Tests.{eq-eqb, ne_eqb, le-leb, lt-leb, leb-true}
use Rattle.refusal.specs.declared.Refusal.TheVariants.{Length, Word}
use Rattle.refusal.specs.Refusals.{number_of}
use Rattle.refusal.specs.Outcomes.{Rule, refused, answered, outcome, ◌given_if◌, gives, passes, answers}
use Rattle.tape.specs.declared.Decoded.{Decoded}
use Rattle.tape.specs.declared.Header.{Header}
use Rattle.tape.specs.Words.{decoded}
use Rattle.tape.specs.Layout.{other_words, max_words, step_count, step_words_of, end_at, sort_of, value_of, means_at, header_of, is_length, is_header, is_free_or_named, all_steps, is_end, laid_out, header_outcome, read_outcome}
use Rattle.refusal.proofs.Laws.Tests.{by_test, both}

-- ---- the rules

module _ (tape : List ℕ) where
  pub length_short : length tape < other_words → is_length tape ≡ false
  unfolding is_length
  length_short h = rw (lt-leb other_words (length tape) h)

  pub length_good : other_words ≤ length tape → length tape ≤ max_words → is_length tape ≡ true
  unfolding is_length
  length_good h k = rw (le-leb other_words (length tape) h, le-leb (length tape) max_words k)

  pub length_last : other_words ≤ length tape → is_length tape ≡ leb (length tape) max_words
  unfolding is_length
  length_last h = rw (le-leb other_words (length tape) h)

  pub length_most : is_length tape ≡ true → length tape ≤ max_words
  unfolding is_length
  length_most e = leb-true (length tape) max_words (both (leb other_words (length tape)) (leb (length tape) max_words) e).1

module _ (tape : List ℕ) where
  pub header_not_1 : (sort_of (means_at tape 0) ≡ 1 → ⊥) → is_header tape ≡ false
  unfolding is_header
  header_not_1 other = rw (ne_eqb (sort_of (means_at tape 0)) 1 other)

  module _ (first : sort_of (means_at tape 0) ≡ 1) where
    pub header_not_2 : (sort_of (means_at tape 1) ≡ 2 → ⊥) → is_header tape ≡ false
    unfolding is_header
    header_not_2 other = rw (eq-eqb (sort_of (means_at tape 0)) 1 first, ne_eqb (sort_of (means_at tape 1)) 2 other)

    module _ (second : sort_of (means_at tape 1) ≡ 2) where
      pub header_not_3 : (sort_of (means_at tape 2) ≡ 3 → ⊥) → is_header tape ≡ false
      unfolding is_header
      header_not_3 other =
          rw (eq-eqb (sort_of (means_at tape 0)) 1 first, eq-eqb (sort_of (means_at tape 1)) 2 second, ne_eqb (sort_of (means_at tape 2)) 3 other)

      pub header_last : sort_of (means_at tape 2) ≡ 3 → is_header tape ≡ eqb (sort_of (means_at tape 3)) 4
      unfolding is_header
      header_last third =
          rw (eq-eqb (sort_of (means_at tape 0)) 1 first, eq-eqb (sort_of (means_at tape 1)) 2 second, eq-eqb (sort_of (means_at tape 2)) 3 third)

module _ (h : Header) where
  pub header_named : (h.variant ≡ 0 → ⊥) → is_free_or_named h ≡ true
  unfolding is_free_or_named
  header_named named = rw (ne_eqb h.variant 0 named)

  module _ (free : h.variant ≡ 0) where
    pub free_order : (h.order ≡ 0 → ⊥) → is_free_or_named h ≡ false
    unfolding is_free_or_named
    free_order some = rw (eq-eqb h.variant 0 free, ne_eqb h.order 0 some)

    pub free_exponent : h.order ≡ 0 → is_free_or_named h ≡ eqb h.exponent 0
    unfolding is_free_or_named
    free_exponent none = rw (eq-eqb h.variant 0 free, eq-eqb h.order 0 none)

module _ (count : ℕ) (d : Decoded) where
  pub end_sort : (sort_of d ≡ 15 → ⊥) → is_end count d ≡ false
  unfolding is_end
  end_sort other = rw (ne_eqb (sort_of d) 15 other)

  pub end_count : sort_of d ≡ 15 → is_end count d ≡ eqb (value_of d) count
  unfolding is_end
  end_count end = rw (eq-eqb (sort_of d) 15 end)

-- ---- the layout

module _ (tape : List ℕ) where
  pub laid_not_header : is_header tape ≡ false → laid_out tape ≡ false
  unfolding laid_out
  laid_not_header e = rw e

  module _ (header : is_header tape ≡ true) where
    pub laid_not_free : is_free_or_named (header_of tape) ≡ false → laid_out tape ≡ false
    unfolding laid_out
    laid_not_free e = rw (header, e)

    module _ (free : is_free_or_named (header_of tape) ≡ true) where
      pub laid_not_steps : all_steps (step_words_of tape) ≡ false → laid_out tape ≡ false
      unfolding laid_out
      laid_not_steps e = rw (header, free, e)

      pub laid_end : all_steps (step_words_of tape) ≡ true → laid_out tape ≡ is_end (step_count tape) (decoded (end_at tape))
      unfolding laid_out
      laid_end steps = rw (header, free, steps)

-- ---- the outcome

module _ (tape : List ℕ) where
  pub header_length : is_length tape ≡ false → header_outcome tape ≡ refused (number_of Length)
  unfolding header_outcome
  header_length e = gives _ _ _ (ap not e)

  pub header_read : is_length tape ≡ true → header_outcome tape ≡ answered (header_of tape)
  unfolding header_outcome
  header_read e = passes _ _ _ (ap not e) ∙ answers _

  pub read_length : is_length tape ≡ false → read_outcome tape ≡ refused (number_of Length)
  unfolding read_outcome
  read_length e = gives _ _ _ (ap not e)

  module _ (long : is_length tape ≡ true) where
    pub read_word : laid_out tape ≡ false → read_outcome tape ≡ refused (number_of Word)
    unfolding read_outcome
    read_word e = passes _ _ _ (ap not long) ∙ gives _ _ _ (ap not e)

    pub read_laid : laid_out tape ≡ true → read_outcome tape ≡ answered (header_of tape)
    unfolding read_outcome
    read_laid e = passes _ _ _ (ap not long) ∙ passes _ _ _ (ap not e) ∙ answers _

-- ---- what the outcome says of the tape

pub record ReadAs (tape : List ℕ) (h : Header) : Type 0 where
  pub long : is_length tape ≡ true
  pub laid : laid_out tape ≡ true
  pub header : h ≡ header_of tape

module _ (tape : List ℕ) where
  pub read_answered : (h : Header) → read_outcome tape ≡ answered h → ReadAs tape h
  read_answered h e =
      by_test (is_length tape)
      (λ long.
      by_test (laid_out tape)
      (λ laid. let read = read_laid tape long laid in record { long = long; laid = laid; header = cc })
      (λ not_laid. let read = read_word tape long not_laid in let z : ◌≡◌ {A = ℕ} 0 1 = cc in absurd (omega arith)))
      (λ short. let read = read_length tape short in let z : ◌≡◌ {A = ℕ} 0 1 = cc in absurd (omega arith))

  -- a service that reads the tape before its other rules: a refusal stands, and an answer leaves the other rules
  module _ {A : Type 0} (rules : List Rule) (x : A) where
    pub reading_refused : (n : ℕ) → read_outcome tape ≡ refused n
        → outcome ((Length given_if not (is_length tape)) ∷ (Word given_if not (laid_out tape)) ∷ rules) x ≡ refused n
    reading_refused n e =
        by_test (is_length tape)
        (λ long.
        by_test (laid_out tape)
        (λ laid. let read = read_laid tape long laid in let z : ◌≡◌ {A = ℕ} 0 1 = cc in absurd (omega arith))
        (λ not_laid.
        let read = read_word tape long not_laid in
        passes _ _ _ (ap not long) ∙ gives _ _ _ (ap not not_laid) ∙ cc))
        (λ short. let read = read_length tape short in gives _ _ _ (ap not short) ∙ cc)

    pub reading_passed : (h : Header) → ReadAs tape h
        → outcome ((Length given_if not (is_length tape)) ∷ (Word given_if not (laid_out tape)) ∷ rules) x ≡ outcome rules x
    reading_passed h read = passes _ _ _ (ap not read.long) ∙ passes _ _ _ (ap not read.laid)

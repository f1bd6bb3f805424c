-- Laying a tape out: where there is a place, the words of a program's steps, written from the answered index on, make the row that
-- program's words with what stood past them. The word past the steps is set beside those that are written later.
use mathlib.Core.Path.{◌≡◌, refl, sym, ap, ◌∙◌}
use mathlib.Core.Bool.{true, false, and-false}
use mathlib.Core.List.{List, [], ◌∷◌, ◌++◌, map}
use Prim.Native.Nat.{ℕ, suc, ◌+◌, ◌≤◌, ◌<◌}
use native.Mathlib.Nat.{zero-add}
use native.Mathlib.Omega.{arith}
use lib.Dec.{leb, ltb}
use lib.ListN.{length, set, drop, length-map, length-set}
use lib.Seq.{sets, sets-eq, length-sets, set_comm}
use borrow.Author.Tests.{le-leb, lt-leb, lt-ltb, ltb-true}
use Rattle.refusal.proofs.Laws.Tests.{both, and_both}
use Rattle.refusal.proofs.Laws.Rows.{sets_append}
use Rattle.tape.specs.declared.Decoded.TheVariants.{End}
use Rattle.tape.specs.declared.Header.{Header}
use Rattle.tape.specs.Words.{number_limit, variant_limit, encoded, step_word}
use Rattle.tape.specs.Layout.{header_words, first_words, Program, header_for, program_words, word_count, numbers_fit, has_place, lay_begin, laid_buffer}
use Rattle.tape.proofs.Laws.Layout.{HeaderFits, LawfulProgram, program_length}

-- ---- the numbers of a header fit

module _ (h : Header) where
  pub numbers_fit_lem : numbers_fit h ≡ true → HeaderFits h
  unfolding numbers_fit
  numbers_fit_lem e =
      let a = both (ltb h.variant variant_limit) _ e in
      let b = both (ltb h.modulus number_limit) _ a.1 in
      let c = both (ltb h.order number_limit) _ b.1 in
      let d = both (ltb h.exponent number_limit) _ c.1 in
      record {
        variant_small = ltb-true _ _ a.0;
        modulus_small = ltb-true _ _ b.0;
        order_small = ltb-true _ _ c.0;
        exponent_small = ltb-true _ _ d.0;
        count_small = ltb-true _ _ d.1;
      }

  pub fits_numbers : HeaderFits h → numbers_fit h ≡ true
  unfolding numbers_fit
  fits_numbers f =
      and_both _ _ (lt-ltb _ _ f.variant_small)
      (and_both _ _ (lt-ltb _ _ f.modulus_small)
      (and_both _ _ (lt-ltb _ _ f.order_small)
      (and_both _ _ (lt-ltb _ _ f.exponent_small) (lt-ltb _ _ f.count_small))))

-- ---- the place

module _ (h : Header) (room : ℕ) where
  pub place_short : room < word_count h → has_place h room ≡ false
  unfolding has_place
  place_short short = rw (lt-leb (word_count h) room short)

  pub place_unfit : numbers_fit h ≡ false → has_place h room ≡ false
  unfolding has_place
  place_unfit e = rw (e, and-false (leb (word_count h) room))

  pub place_there : word_count h ≤ room → numbers_fit h ≡ true → has_place h room ≡ true
  unfolding has_place
  place_there long e = and_both _ _ (le-leb (word_count h) room long) e

module _ (h : Header) (row : List ℕ) where
  pub none_laid : has_place h (length row) ≡ false → (0 ≡ lay_begin h (length row)) × (row ≡ laid_buffer h row)
  none_laid e = (rw e refl, rw e refl)

  pub laid_there : has_place h (length row) ≡ true
      → (header_words ≡ lay_begin h (length row)) × (set (sets row 0 (first_words h)) (header_words + h.steps) (encoded (End h.steps)) ≡ laid_buffer h row)
  laid_there e = (rw e refl, rw e refl)

-- ---- a program's words

-- a word past others may be set before them
sets_past : (ws l : List ℕ) (i j e : ℕ) → i + length ws ≤ j → sets (set l j e) i ws ≡ set (sets l i ws) j e
sets_past [] l i j e h = refl
sets_past (w ∷ ws) l i j e h =
    ap (λ (l : List ℕ). sets l (suc i) ws) (set_comm l j i e w (λ z. omega arith))
    ∙ sets_past ws (set l i w) (suc i) j e (omega arith)

module _ (q : Program) (lawful : LawfulProgram q) (row : List ℕ) (long : length (program_words q) ≤ length row) where
  there : has_place (header_for q) (length row) ≡ true
  there = place_there (header_for q) (length row) (omega (arith, program_length q)) (fits_numbers (header_for q) lawful.fits)

  pub lay_begin_lem : lay_begin (header_for q) (length row) ≡ header_words
  lay_begin_lem = sym (laid_there (header_for q) row there).0

  pub steps_fit : lay_begin (header_for q) (length row) + length q.steps ≤ length (laid_buffer (header_for q) row)
  steps_fit =
      let size : length (laid_buffer (header_for q) row) ≡ length row =
      ap length (sym (laid_there (header_for q) row there).1) ∙ length-set (sets row 0 (first_words (header_for q))) _ _ ∙ length-sets row 0 (first_words (header_for q)) in
      omega (arith, program_length q, lay_begin_lem, size)

  pub program_laid : sets (laid_buffer (header_for q) row) (lay_begin (header_for q) (length row)) (map step_word q.steps) ≡ program_words q ++ drop (length (program_words q)) row
  unfolding program_words
  program_laid =
      let h = header_for q in
      let first : List ℕ = first_words h in
      let steps : List ℕ = map step_word q.steps in
      let end : ℕ = encoded (End (length q.steps)) in
      let count : length steps ≡ length q.steps = length-map q.steps step_word in
      let past : header_words + length q.steps ≡ 0 + length (first ++ steps) = omega (arith, count) in
      let begin : lay_begin h (length row) ≡ header_words = lay_begin_lem in
      rw begin (ap (λ (l : List ℕ). sets l header_words steps) (sym (laid_there h row there).1))
      ∙ sets_past steps (sets row 0 first) header_words (header_words + length q.steps) end (omega (arith, count))
      ∙ ap (λ (l : List ℕ). set l (header_words + length q.steps) end) (sets_append first steps row 0)
      ∙ ap (λ (i : ℕ). set (sets row 0 (first ++ steps)) i end) past
      ∙ sets_append (first ++ steps) (end ∷ []) row 0
      ∙ sets-eq (first ++ (steps ++ end ∷ [])) row 0 (omega arith)
      ∙ rw zero-add

-- Tapes and programs: a tape that is laid out is the words of its program, and the words of a lawful program are laid out and
-- give the program back. The four header words, the steps and the end are the whole row.
use mathlib.Core.Path.{◌≡◌, refl, sym, ap, ◌∙◌}
use mathlib.Core.Bool.{true, ◌&&◌}
use mathlib.Core.List.{List, [], ◌∷◌, ◌++◌, map}
use Prim.Native.Nat.{ℕ, suc, ◌+◌, ◌≤◌, ◌<◌}
use native.Mathlib.Decide.{dec_le}
use native.Mathlib.Omega.{arith}
use lib.Dec.{eqb}
use lib.ListN.{length, get_or, take, drop, length-append, length-map, drop_of_length-le}
use lib.Seq.{split_at, take_at, get_or_at, get_or-take, length-take-le}
use borrow.Author.Tests.{eqb-true, eq-eqb}
use Rattle.tape.specs.declared.Decoded.TheVariants.{Heading, P, R, K, End}
use Rattle.tape.specs.declared.Header.{Header}
use Rattle.tape.specs.Steps.{AllSound}
use Rattle.tape.specs.Words.{number_limit, variant_limit, decoded, encoded, step_word}
use Rattle.tape.specs.Layout.{other_words, step_count, step_words, step_words_of, end_at, sort_of, value_of, means_at, header_of, steps_in, steps_of, is_header, is_free_or_named, all_steps, is_end, laid_out, Program, header_for, program_words, program_of}
use Rattle.refusal.proofs.Laws.Tests.{both, and_both, implied, implies}
use Rattle.tape.proofs.Laws.Words.{decoded_encoded, decoded_lawful, value_small, variant_small, word_again}
use Rattle.tape.proofs.Laws.Rows.{steps_words, words_all_steps, words_steps, words_count, means_past}

-- ---- the layout by its rules

pub record LaidOut (tape : List ℕ) : Type 0 where
  pub sort_0 : sort_of (means_at tape 0) ≡ 1
  pub sort_1 : sort_of (means_at tape 1) ≡ 2
  pub sort_2 : sort_of (means_at tape 2) ≡ 3
  pub sort_3 : sort_of (means_at tape 3) ≡ 4
  pub free : value_of (means_at tape 0) ≡ 0 → (value_of (means_at tape 2) ≡ 0) × (value_of (means_at tape 3) ≡ 0)
  pub steps : all_steps (step_words_of tape) ≡ true
  pub end : sort_of (decoded (end_at tape)) ≡ 15
  pub count : value_of (decoded (end_at tape)) ≡ step_count tape

module _ (tape : List ℕ) where
  zeros : eqb (value_of (means_at tape 2)) 0 && eqb (value_of (means_at tape 3)) 0 ≡ true → (value_of (means_at tape 2) ≡ 0) × (value_of (means_at tape 3) ≡ 0)
  zeros e =
      let t = both (eqb (value_of (means_at tape 2)) 0) (eqb (value_of (means_at tape 3)) 0) e in
      (eqb-true _ _ t.0, eqb-true _ _ t.1)

  pub laid_out_rules : laid_out tape ≡ true → LaidOut tape
  unfolding laid_out is_header is_free_or_named is_end
  laid_out_rules e =
      let a = both (is_header tape) _ e in
      let b = both (is_free_or_named (header_of tape)) _ a.1 in
      let c = both (all_steps (step_words_of tape)) _ b.1 in
      let d = both (eqb (sort_of (decoded (end_at tape))) 15) _ c.1 in
      let h0 = both (eqb (sort_of (means_at tape 0)) 1) _ a.0 in
      let h1 = both (eqb (sort_of (means_at tape 1)) 2) _ h0.1 in
      let h2 = both (eqb (sort_of (means_at tape 2)) 3) _ h1.1 in
      record {
        sort_0 = eqb-true _ _ h0.0;
        sort_1 = eqb-true _ _ h1.0;
        sort_2 = eqb-true _ _ h2.0;
        sort_3 = eqb-true _ _ h2.1;
        free = λ z. zeros (implied (eqb (value_of (means_at tape 0)) 0) _ b.0 (eq-eqb _ _ z));
        steps = c.0;
        end = eqb-true _ _ d.0;
        count = eqb-true _ _ d.1;
      }

  pub rules_laid_out : LaidOut tape → laid_out tape ≡ true
  unfolding laid_out is_header is_free_or_named is_end
  rules_laid_out l =
      let named = implies (eqb (value_of (means_at tape 0)) 0) (eqb (value_of (means_at tape 2)) 0 && eqb (value_of (means_at tape 3)) 0)
      (λ e. let z = l.free (eqb-true _ _ e) in and_both _ _ (eq-eqb _ _ z.0) (eq-eqb _ _ z.1)) in
      rw (
        eq-eqb (sort_of (means_at tape 0)) 1 l.sort_0,
        eq-eqb (sort_of (means_at tape 1)) 2 l.sort_1,
        eq-eqb (sort_of (means_at tape 2)) 3 l.sort_2,
        eq-eqb (sort_of (means_at tape 3)) 4 l.sort_3,
        l.steps,
        eq-eqb (sort_of (decoded (end_at tape))) 15 l.end,
        eq-eqb (value_of (decoded (end_at tape))) (step_count tape) l.count,
      )
      (and_both _ _ named refl)

-- ---- the row of a header, steps and an end

abbrev pub row : ℕ → ℕ → ℕ → ℕ → List ℕ → ℕ → List ℕ
row a b c d words e = a ∷ b ∷ c ∷ d ∷ (words ++ e ∷ [])

module _ (a b c d e : ℕ) (words : List ℕ) where
  pub row_count : step_count (row a b c d words e) ≡ length words
  row_count = simp length-append (omega arith)

  pub row_words : step_words_of (row a b c d words e) ≡ words
  row_words =
      ap (λ (n : ℕ). step_words (row a b c d words e) 0 n) row_count
      ∙ ap (drop 4) (take_at (a ∷ b ∷ c ∷ d ∷ words) (e ∷ []) (4 + length words) (omega arith))

  pub row_end : end_at (row a b c d words e) ≡ e
  row_end =
      ap (λ (n : ℕ). get_or (row a b c d words e) (4 + n) 0) row_count
      ∙ get_or_at (a ∷ b ∷ c ∷ d ∷ words) e [] 0 (4 + length words) (omega arith)

front : (l : List ℕ) → 4 ≤ length l → l ≡ get_or l 0 0 ∷ get_or l 1 0 ∷ get_or l 2 0 ∷ get_or l 3 0 ∷ drop 4 l
front [] h = absurd (omega arith)
front (a ∷ []) h = absurd (omega arith)
front (a ∷ b ∷ []) h = absurd (omega arith)
front (a ∷ b ∷ c ∷ []) h = absurd (omega arith)
front (a ∷ b ∷ c ∷ d ∷ l) h = refl

-- a tape of at least five words is such a row
pub tape_row_lem : (tape : List ℕ) → other_words ≤ length tape
    → tape ≡ row (get_or tape 0 0) (get_or tape 1 0) (get_or tape 2 0) (get_or tape 3 0) (step_words_of tape) (end_at tape)
tape_row_lem tape h =
    let n : ℕ = 4 + step_count tape in
    let t : List ℕ = take n tape in
    let rest : drop (suc n) tape ≡ [] = drop_of_length-le tape {i = suc n} (omega arith) in
    let four : 4 ≤ length t = omega (arith, length-take-le n tape (omega arith)) in
    let t0 : get_or t 0 0 ≡ get_or tape 0 0 = get_or-take n tape 0 0 (omega arith) in
    let t1 : get_or t 1 0 ≡ get_or tape 1 0 = get_or-take n tape 1 0 (omega arith) in
    let t2 : get_or t 2 0 ≡ get_or tape 2 0 = get_or-take n tape 2 0 (omega arith) in
    let t3 : get_or t 3 0 ≡ get_or tape 3 0 = get_or-take n tape 3 0 (omega arith) in
    split_at tape n 0 (omega arith)
    ∙ ap (λ (l : List ℕ). t ++ end_at tape ∷ l) rest
    ∙ ap (λ (l : List ℕ). l ++ end_at tape ∷ []) (front t four)
    ∙ cc

-- ---- from a tape to its program and back

pub steps_count : (tape : List ℕ) → length (steps_of tape) ≡ step_count tape
steps_count tape = simp length-map (words_count tape)

module _ (tape : List ℕ) (laid : laid_out tape ≡ true) where
  rules : LaidOut tape
  rules = laid_out_rules tape laid

  pub laid_out_long : other_words ≤ length tape
  laid_out_long = elim (dec_le other_words (length tape)) [
    | yes h ↦ h
    | no h ↦ absurd (omega (arith, rules.end, ap sort_of (means_past tape (4 + step_count tape) (omega arith))))
  ]

  pub words_program : program_words (program_of tape) ≡ tape
  unfolding program_words
  words_program =
      let w0 = word_again (get_or tape 0 0) rules.sort_0 (λ z. omega arith) in
      let w1 = word_again (get_or tape 1 0) rules.sort_1 (λ z. omega arith) in
      let w2 = word_again (get_or tape 2 0) rules.sort_2 (λ z. omega arith) in
      let w3 = word_again (get_or tape 3 0) rules.sort_3 (λ z. omega arith) in
      let steps = steps_words (step_words_of tape) rules.steps in
      let end = ap (λ (n : ℕ). encoded (End n)) (steps_count tape ∙ sym rules.count) ∙ word_again (end_at tape) rules.end (λ z. omega arith) in
      rw (w0, w1, w2, w3, steps, end) (sym (tape_row_lem tape laid_out_long))

-- the numbers of a header fit their words
pub record HeaderFits (h : Header) : Type 0 where
  pub variant_small : h.variant < variant_limit
  pub modulus_small : h.modulus < number_limit
  pub order_small : h.order < number_limit
  pub exponent_small : h.exponent < number_limit
  pub count_small : h.steps < number_limit

-- what a program's words can say: its numbers fit, a free program has 0 for r and k, and the steps are sound
pub record LawfulProgram (q : Program) : Type 0 where
  pub fits : HeaderFits (header_for q)
  pub free : q.variant ≡ 0 → (q.order ≡ 0) × (q.exponent ≡ 0)
  pub sound : AllSound q.steps

pub header_fits_lem : (tape : List ℕ) → laid_out tape ≡ true → HeaderFits (header_of tape)
header_fits_lem tape laid =
    let rules = laid_out_rules tape laid in
    record {
      variant_small = variant_small (get_or tape 0 0) rules.sort_0;
      modulus_small = value_small (means_at tape 1) (decoded_lawful (get_or tape 1 0));
      order_small = value_small (means_at tape 2) (decoded_lawful (get_or tape 2 0));
      exponent_small = value_small (means_at tape 3) (decoded_lawful (get_or tape 3 0));
      count_small = omega (arith, rules.count, value_small (decoded (end_at tape)) (decoded_lawful (end_at tape)));
    }

-- ---- from a program to its tape and back

pub program_length : (q : Program) → length (program_words q) ≡ length q.steps + other_words
unfolding program_words
program_length q = simp (length-append, length-map) (omega arith)

module _ (q : Program) (lawful : LawfulProgram q) where
  means_0 : means_at (program_words q) 0 ≡ Heading q.variant
  unfolding program_words
  means_0 = decoded_encoded (Heading q.variant) lawful.fits.variant_small

  means_1 : means_at (program_words q) 1 ≡ P q.modulus
  unfolding program_words
  means_1 = decoded_encoded (P q.modulus) lawful.fits.modulus_small

  means_2 : means_at (program_words q) 2 ≡ R q.order
  unfolding program_words
  means_2 = decoded_encoded (R q.order) lawful.fits.order_small

  means_3 : means_at (program_words q) 3 ≡ K q.exponent
  unfolding program_words
  means_3 = decoded_encoded (K q.exponent) lawful.fits.exponent_small

  count_is : step_count (program_words q) ≡ length q.steps
  count_is = omega (arith, program_length q)

  words_are : step_words_of (program_words q) ≡ map step_word q.steps
  unfolding program_words
  words_are = row_words _ _ _ _ _ (map step_word q.steps)

  end_means : decoded (end_at (program_words q)) ≡ End (length q.steps)
  unfolding program_words
  end_means =
      ap decoded (row_end _ _ _ _ (encoded (End (length q.steps))) (map step_word q.steps))
      ∙ decoded_encoded (End (length q.steps)) lawful.fits.count_small

  pub program_laid_out : laid_out (program_words q) ≡ true
  program_laid_out =
      rules_laid_out (program_words q)
      (record {
        sort_0 = ap sort_of means_0;
        sort_1 = ap sort_of means_1;
        sort_2 = ap sort_of means_2;
        sort_3 = ap sort_of means_3;
        free = λ z. let zero = lawful.free (sym (ap value_of means_0) ∙ z) in (ap value_of means_2 ∙ zero.0, ap value_of means_3 ∙ zero.1);
        steps = ap all_steps words_are ∙ words_all_steps q.steps lawful.sound;
        end = ap sort_of end_means;
        count = ap value_of end_means ∙ sym count_is;
      })

  pub program_header : header_of (program_words q) ≡ header_for q
  program_header = cc (ap value_of means_0, ap value_of means_1, ap value_of means_2, ap value_of means_3, count_is)

  pub program_steps : steps_of (program_words q) ≡ q.steps
  program_steps = ap steps_in words_are ∙ words_steps q.steps lawful.sound

  pub program_words_lem : program_of (program_words q) ≡ q
  program_words_lem =
      let fields : program_of (program_words q) ≡ record { variant = q.variant; modulus = q.modulus; order = q.order; exponent = q.exponent; steps = q.steps } =
      cc (ap value_of means_0, ap value_of means_1, ap value_of means_2, ap value_of means_3, program_steps) in
      fields

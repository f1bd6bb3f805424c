-- The tests of load, run, trace, table and cut by cases, and what is left of the five on an accepted tape: their own rules.
use mathlib.Core.Path.{◌≡◌, refl, sym, ap, ◌∙◌}
use mathlib.Core.Bool.{true, false, not, ◌||◌, or-false}
use mathlib.Core.List.{List, [], ◌∷◌}
use Prim.Native.Nat.{ℕ, ◌≤◌, ◌<◌, ◌%◌}
use native.Mathlib.Omega.{arith}
use lib.Dec.{leb, ltb}
use lib.ListN.{length, take}
use borrow.Author.Tests.{ltb-false, lt-ltb, le-ltb, eq-eqb, ne_eqb}
use Rattle.refusal.specs.declared.Refusal.TheVariants.{Position}
use Rattle.refusal.specs.Refusals.{number_of}
use Rattle.refusal.specs.Outcomes.{Outcome, refused, answered, outcome, refusal_number, gives, passes}
use Rattle.refusal.proofs.Laws.Tests.{neither}
use Rattle.modular.specs.Primes.{Prime}
use Rattle.orders.specs.Orders.{is_order}
use Rattle.tape.specs.declared.Header.{Header}
use Rattle.tape.specs.declared.Step.{Step}
use Rattle.tape.specs.Layout.{header_of, step_index, step_words, step_words_of, part, steps_of, all_steps}
use Rattle.tape.specs.Inner.Operations.{raw_steps}
use Rattle.tape.proofs.Laws.Rows.{words_count, part_inside}
use Rattle.tape.proofs.Laws.Layout.{laid_out_long, laid_out_rules}
use Rattle.machine.specs.Exponents.{exponents_at}
use Rattle.tables.specs.Tables.{table_of}
use Rattle.tables.specs.Inner.Columns.{column_outcome, columns_outcome}
use Rattle.program.specs.Services.{accept_outcome}
use Rattle.program.proofs.Laws.Checking.{accepted, header_is, steps_are}
use Rattle.program.proofs.Laws.Accepting.{accepted_prime, accepted_odd}
use Rattle.program.proofs.Laws.Door.{tape_accepted}
use Rattle.sequencer.specs.Records.{Record}
use Rattle.sequencer.specs.Services.{bad_register, bad_registers, allowed, bad_base, bad_cut, base_rules, start_record, goal_rules, record_at, trace_rules, cut_rules, load_outcome, run_outcome, trace_outcome, cut_outcome, cut_part}
use Rattle.sequencer.specs.Tables.{table_rules, table_outcome}
use Rattle.sequencer.proofs.Laws.Positions.{raw_part}

-- ---- the tests

module _ (p x : ℕ) where
  pub register_zero : x ≡ 0 → bad_register p x ≡ true
  unfolding bad_register
  register_zero e = rw (eq-eqb x 0 e)

  pub register_some : ¬ (x ≡ 0) → bad_register p x ≡ leb p x
  unfolding bad_register
  register_some ne = rw (ne_eqb x 0 ne)

-- several numbers: the first is bad, or the others decide
module _ (p x : ℕ) (v : List ℕ) where
  pub registers_first : bad_register p x ≡ true → bad_registers p (x ∷ v) ≡ true
  unfolding bad_registers
  registers_first e = rw e

  pub registers_others : bad_register p x ≡ false → bad_registers p (x ∷ v) ≡ bad_registers p v
  unfolding bad_registers
  registers_others e = rw e

pub registers_last : (p x : ℕ) → bad_registers p (x ∷ []) ≡ bad_register p x
unfolding bad_registers
registers_last p x = or-false (bad_register p x)

module _ (h : Header) (a : ℕ) where
  pub base_free : h.variant ≡ 0 → bad_base h a ≡ false
  unfolding bad_base
  base_free e = rw (eq-eqb h.variant 0 e)

  pub base_named : ¬ (h.variant ≡ 0) → bad_base h a ≡ not (is_order h.modulus a h.order)
  unfolding bad_base allowed
  base_named ne = rw (ne_eqb h.variant 0 ne)

module _ (steps first last : ℕ) where
  pub cut_first : steps < first → bad_cut steps first last ≡ true
  unfolding bad_cut
  cut_first h = rw (lt-ltb steps first h)

  pub cut_last : first ≤ steps → steps < last → bad_cut steps first last ≡ true
  unfolding bad_cut
  cut_last low h = rw (le-ltb steps first low, lt-ltb steps last h)

  pub cut_order : first ≤ steps → last ≤ steps → bad_cut steps first last ≡ ltb last first
  unfolding bad_cut
  cut_order low high = rw (le-ltb steps first low, le-ltb steps last high)

  pub good_cut : bad_cut steps first last ≡ false → (first ≤ last) × (last ≤ steps)
  unfolding bad_cut
  good_cut good =
      let low = neither (ltb steps first || ltb steps last) (ltb last first) good in
      let high = neither (ltb steps first) (ltb steps last) low.0 in
      (ltb-false last first low.1, ltb-false steps last high.1)

-- what is beside a cut's part
pub cut_refused : {o : Outcome (List ℕ)} {m n : ℕ} → o ≡ refused n → m ≡ n → ([] ≡ cut_part o) × (m ≡ refusal_number o)
cut_refused e f = rw e (refl, f)

pub cut_answered : {o : Outcome (List ℕ)} {part words : List ℕ} → o ≡ answered words → part ≡ words → (part ≡ cut_part o) × (0 ≡ refusal_number o)
cut_answered e f = rw e (f, refl)

-- ---- on an accepted tape

module _ (tape : List ℕ) (h : Header) (e : accept_outcome tape ≡ answered h) where
  pub modulus_prime : Prime h.modulus
  modulus_prime = rw (header_is tape h e) (accepted_prime tape (accepted (header_of tape) tape e))

  pub modulus_odd : h.modulus % 2 ≡ 1
  modulus_odd = rw (header_is tape h e) (accepted_odd tape (accepted (header_of tape) tape e))

  -- its step words are steps, as many as the header says
  pub words_steps : all_steps (step_words_of tape) ≡ true
  words_steps = (laid_out_rules tape (accepted (header_of tape) tape e).laid).steps

  pub words_are : length (step_words_of tape) ≡ h.steps
  words_are = words_count tape ∙ sym (steps_are tape h e)

  -- the steps that the words up to a position have in their digits are the tape's
  pub raw_until : (position : ℕ) → position ≤ h.steps → raw_steps (part (step_words_of tape) 0 position) ≡ take position (steps_of tape)
  raw_until position inside =
      let words = step_words_of tape in
      let within : position ≤ length words = omega (arith, words_are) in
      raw_part words words_steps 0 position (omega arith) within

  -- their own rules are left
  pub load_rules : (a : ℕ) → load_outcome tape a ≡ outcome (base_rules h a) (start_record a)
  unfolding load_outcome
  load_rules a = tape_accepted tape h e (λ (g : Header). base_rules g a) (λ (g : Header). start_record a)

  pub run_rules_lem : (s : Record) (goal : ℕ) → run_outcome tape s goal ≡ outcome (goal_rules h s goal) (record_at h (steps_of tape) s goal)
  unfolding run_outcome
  run_rules_lem s goal = tape_accepted tape h e (λ (g : Header). goal_rules g s goal) (λ (g : Header). record_at g (steps_of tape) s goal)

  pub trace_rules_lem : (position : ℕ) → trace_outcome tape position ≡ outcome (trace_rules h (steps_of tape) position) (exponents_at (steps_of tape) position)
  unfolding trace_outcome
  trace_rules_lem position =
      tape_accepted tape h e (λ (g : Header). trace_rules g (steps_of tape) position) (λ (g : Header). exponents_at (steps_of tape) position)

  pub table_rules_lem : (position : ℕ) → table_outcome tape position ≡ outcome (table_rules h (steps_of tape) position) (table_of (take position (steps_of tape)))
  unfolding table_outcome
  table_rules_lem position =
      tape_accepted tape h e (λ (g : Header). table_rules g (steps_of tape) position) (λ (g : Header). table_of (take position (steps_of tape)))

  -- a position above the step count, and one up to it, where the columns of the steps in the words' digits decide
  module _ (position : ℕ) where
    pub trace_past : h.steps < position → trace_outcome tape position ≡ refused (number_of Position)
    unfolding trace_rules
    trace_past past = trace_rules_lem position ∙ gives _ _ _ (lt-ltb _ _ past)

    pub table_past : h.steps < position → table_outcome tape position ≡ refused (number_of Position)
    unfolding table_rules
    table_past past = table_rules_lem position ∙ gives _ _ _ (lt-ltb _ _ past)

    pub trace_by_column : position ≤ h.steps → trace_outcome tape position ≡ column_outcome (raw_steps (part (step_words_of tape) 0 position)) 1
    unfolding trace_rules column_outcome
    trace_by_column inside =
        trace_rules_lem position ∙ passes _ _ _ (le-ltb _ _ inside) ∙ ap (λ (xs : List Step). column_outcome xs 1) (sym (raw_until position inside))

    pub table_by_columns : position ≤ h.steps → table_outcome tape position ≡ columns_outcome (raw_steps (part (step_words_of tape) 0 position))
    unfolding table_rules columns_outcome
    table_by_columns inside = table_rules_lem position ∙ passes _ _ _ (le-ltb _ _ inside) ∙ ap columns_outcome (sym (raw_until position inside))

  pub cut_rules_lem : (first last : ℕ) → cut_outcome tape first last ≡ outcome (cut_rules h first last) (step_words tape first last)
  unfolding cut_outcome
  cut_rules_lem first last = tape_accepted tape h e (λ (g : Header). cut_rules g first last) (λ (g : Header). step_words tape first last)

  -- the words that a cut answers, as a part of the tape
  pub cut_words : (first last : ℕ) → bad_cut h.steps first last ≡ false → part tape (step_index tape first) (step_index tape last) ≡ step_words tape first last
  cut_words first last good =
      let long = laid_out_long tape (accepted (header_of tape) tape e).laid in
      let within = good_cut h.steps first last good in
      part_inside tape (step_index tape first) (step_index tape last) (omega arith) (omega (arith, steps_are tape h e))

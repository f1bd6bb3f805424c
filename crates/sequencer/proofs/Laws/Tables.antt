-- What a table says: the steps of a tape are sound, so what holds of the tables of sound steps holds at every position; and the p of an
-- accepted program is prime.
use mathlib.Core.Path.{◌≡◌, sym, ap, ◌∙◌}
use mathlib.Core.Bool.{not}
use mathlib.Core.List.{List, map}
use Prim.Native.Nat.{ℕ}
use native.Mathlib.Omega.{arith}
use lib.Dec.{ltb}
use lib.IntN.{ℤ}
use lib.ListN.{take}
use borrow.Author.Tests.{not-false}
use Rattle.refusal.specs.Outcomes.{answered, passes, answers}
use Rattle.refusal.proofs.Laws.Rules.{passed}
use Rattle.matrices.specs.Matrices.{Matrix, determinant, column_of, matrix_product, identity_matrix}
use Rattle.tape.specs.Layout.{header_of, steps_of}
use Rattle.machine.specs.Machine.{run, Residues}
use Rattle.machine.specs.Ways.{way, count_where, is_swp}
use Rattle.machine.proofs.Laws.Runs.{sound_take}
use Rattle.machine.proofs.Laws.Ways.{way_out}
use Rattle.tables.specs.Tables.{table_of, table_stays, power_product, sign_of}
use Rattle.tables.proofs.Laws.Signs.{table_sign}
use Rattle.tables.proofs.Laws.Columns.{table_back, table_trace}
use Rattle.tables.proofs.Laws.Products.{way_products, run_products}
use Rattle.tables.proofs.Laws.Ranges.{columns_stay}
use Rattle.program.specs.Services.{check_outcome}
use Rattle.program.proofs.Laws.Door.{answered_tape, answered_own, answered_with}
use Rattle.sequencer.specs.Services.{trace_rules, trace_outcome}
use Rattle.sequencer.specs.Tables.{table_rules, table_outcome, MeansProducts, HasSign}
use Rattle.sequencer.proofs.Laws.Answers.{steps_sound, prime_of}
use Rattle.sequencer.proofs.Laws.Cases.{modulus_prime, trace_rules_lem}

module _ (tape : List ℕ) where
  -- ---- every position, whether the table there is in range or not

  -- of an accepted program each register is the product of the start values to its row's exponents
  pub program_products : check_outcome tape ≡ answered 0 → (position : ℕ) (v : List ℕ) → Residues (header_of tape).modulus v
      → run (header_of tape).modulus (steps_of tape) 0 position v ≡ map (power_product (header_of tape).modulus v) (table_of (take position (steps_of tape)))
  program_products e position v g = run_products _ (prime_of tape e) (steps_of tape) position v (steps_sound tape) g

  -- and so on the way from any position to any other
  pub program_way : check_outcome tape ≡ answered 0 → (i j : ℕ) (v : List ℕ) → Residues (header_of tape).modulus v
      → run (header_of tape).modulus (steps_of tape) i j v ≡ map (power_product (header_of tape).modulus v) (table_of (way (steps_of tape) i j))
  program_way e i j v g = way_products _ (prime_of tape e) (steps_of tape) i j v (steps_sound tape) g

  -- the determinant by the number of swaps
  pub program_sign : (position : ℕ) → determinant 4 (table_of (take position (steps_of tape))) ≡ sign_of (count_where is_swp (take position (steps_of tape)))
  program_sign position = table_sign (take position (steps_of tape)) (sound_take position (steps_of tape) (steps_sound tape))

  -- the way back times the way out, between any two positions
  pub program_back : (i j : ℕ) → matrix_product 4 (table_of (way (steps_of tape) j i)) (table_of (way (steps_of tape) i j)) ≡ identity_matrix 4
  program_back i j = table_back (steps_of tape) i j (steps_sound tape)

  -- ---- an answer

  module _ (position : ℕ) where
    -- is the table of the definition
    answer_is : (m : Matrix) → table_outcome tape position ≡ answered m → m ≡ table_of (take position (steps_of tape))
    unfolding table_outcome
    answer_is m e = answered_with tape _ _ e

    pub table_means : MeansProducts tape position (table_outcome tape position)
    unfolding table_outcome
    table_means m e v g =
        let prime = modulus_prime tape (header_of tape) (answered_tape tape _ (table_of (take position (steps_of tape))) e) in
        run_products _ prime (steps_of tape) position v (steps_sound tape) g ∙ ap (map _) (sym (answer_is m e))

    pub table_has_sign : HasSign tape position (table_outcome tape position)
    table_has_sign m e = ap (determinant 4) (answer_is m e) ∙ program_sign position

    -- the way back from that position times it
    pub table_taken_back : (m : Matrix) → table_outcome tape position ≡ answered m
        → matrix_product 4 (table_of (way (steps_of tape) position 0)) m ≡ identity_matrix 4
    table_taken_back m e =
        ap (matrix_product 4 (table_of (way (steps_of tape) position 0))) (answer_is m e ∙ ap table_of (sym (way_out (steps_of tape) position)))
        ∙ program_back 0 position

    -- ---- the trace is column 1

    pub trace_column : (z : List ℤ) → trace_outcome tape position ≡ answered z → z ≡ column_of (table_of (take position (steps_of tape))) 1
    unfolding trace_outcome
    trace_column z e = answered_with tape _ _ e ∙ sym (table_trace (steps_of tape) position (steps_sound tape))

    -- and it is answered where the table is
    pub table_column : (m : Matrix) → table_outcome tape position ≡ answered m → trace_outcome tape position ≡ answered (column_of m 1)
    unfolding table_outcome table_rules trace_rules
    table_column m e =
        let xs = take position (steps_of tape) in
        let own = passed (ltb (header_of tape).steps position) _ _ _ _ (answered_own tape _ (table_of xs) e) in
        let stays = not-false (table_stays xs) (passed _ _ _ _ _ own.1).0 in
        let traced = columns_stay xs stays 1 (omega arith) in
        trace_rules_lem tape (header_of tape) (answered_tape tape _ (table_of xs) e) position
        ∙ passes _ _ _ own.0
        ∙ passes _ _ _ (ap not traced)
        ∙ answers _
        ∙ ap answered (sym (ap (λ (m : Matrix). column_of m 1) (answer_is m e) ∙ table_trace (steps_of tape) position (steps_sound tape)))

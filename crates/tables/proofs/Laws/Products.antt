-- Each register is the product of the start values to its row's exponents: such a product of a sum of rows is the product of those of the
-- rows, and so with differences; and it makes the start values of the rows of the identity.
use mathlib.Core.Path.{◌≡◌, refl, sym, ap, ap₂, ◌∙◌}
use mathlib.Core.List.{List, [], ◌∷◌, map}
use Prim.Native.Nat.{ℕ, suc, ◌<◌}
use native.Mathlib.Omega.{arith}
use lib.IntN.{ℤ}
use lib.ListN.{length, get_or, take}
use Rattle.modular.specs.Primes.{Prime}
use Rattle.modular.specs.Residues.{Residue, times}
use Rattle.modular.proofs.Laws.Residues.{times_comm, times_assoc, times_one}
use Rattle.modular.proofs.Laws.Group.{residue_one, residue_times, inverse_one, inverse_product}
use Rattle.tape.specs.declared.Step.{Step}
use Rattle.tape.specs.Steps.{AllSound}
use Rattle.matrices.specs.Matrices.{indices}
use Rattle.matrices.proofs.Laws.Determinants.{Row, entries, ◌⊕◌, ◌⊖◌}
use Rattle.machine.specs.Machine.{do_all, run, Residues}
use Rattle.machine.specs.Ways.{way}
use Rattle.machine.proofs.Laws.Lists.{of_four}
use Rattle.machine.proofs.Laws.Actions.{quotient, map_act_all, do_all_act}
use Rattle.machine.proofs.Laws.Exponents.{power_of_residue, power_of_zero, power_of_one, power_of_sum, power_of_less}
use Rattle.machine.proofs.Laws.Ways.{run_way, way_out, sound_way}
use Rattle.tables.specs.Tables.{table_of, power_product}
use Rattle.tables.proofs.Laws.Rows.{zeros, row_steps, identity_rows, rows_four, table_rows}

module _ (p : ℕ) (pr : Prime p) where
  times_left : (a b c : ℕ) → times p a (times p b c) ≡ times p b (times p a c)
  times_left a b c = sym (times_assoc p a b c) ∙ ap (λ x. times p x c) (times_comm p a b) ∙ times_assoc p b a c

  two_by_two : (a b c d : ℕ) → times p (times p a b) (times p c d) ≡ times p (times p a c) (times p b d)
  two_by_two a b c d = times_assoc p a b (times p c d) ∙ ap (times p a) (times_left b c d) ∙ sym (times_assoc p a c (times p b d))

  one_times : (a : ℕ) → Residue p a → times p 1 a ≡ a
  one_times a r = times_comm p 1 a ∙ times_one p a r

  -- ---- residues, any number of them

  AllResidues : List ℕ → Type 0
  AllResidues v = (i : ℕ) → i < length v → Residue p (get_or v i 0)

  module _ (x : ℕ) (v : List ℕ) (h : AllResidues (x ∷ v)) where
    first : Residue p x
    unfolding AllResidues
    first = h 0 (omega arith)

    others : AllResidues v
    unfolding AllResidues
    others i k = h (suc i) (omega arith)

  product_residue : (v : List ℕ) (row : List ℤ) → AllResidues v → Residue p (power_product p v row)
  unfolding power_product
  product_residue [] row h = residue_one p pr
  product_residue (x ∷ v) [] h = residue_one p pr
  product_residue (x ∷ v) (e ∷ row) h = residue_times p pr _ _ (power_of_residue p pr x (first x v h) e) (product_residue v row (others x v h))

  -- ---- sums and differences of rows

  module _ (r s : Row) where
    product_plus : (v js : List ℕ) → AllResidues v
        → power_product p v (map (r ⊕ s) js) ≡ times p (power_product p v (map r js)) (power_product p v (map s js))
    unfolding power_product
    product_plus [] js h = sym (times_one p 1 (residue_one p pr))
    product_plus (x ∷ v) [] h = sym (times_one p 1 (residue_one p pr))
    product_plus (x ∷ v) (j ∷ js) h =
        ap₂ (times p) (power_of_sum p pr x (first x v h) (r j) (s j)) (product_plus v js (others x v h)) ∙ two_by_two _ _ _ _

    product_less : (v js : List ℕ) → AllResidues v
        → power_product p v (map (r ⊖ s) js) ≡ quotient p (power_product p v (map r js)) (power_product p v (map s js))
    unfolding power_product
    product_less [] js h = sym (ap (times p 1) (inverse_one p pr) ∙ times_one p 1 (residue_one p pr))
    product_less (x ∷ v) [] h = sym (ap (times p 1) (inverse_one p pr) ∙ times_one p 1 (residue_one p pr))
    product_less (x ∷ v) (j ∷ js) h =
        let rx = power_of_residue p pr x (first x v h) (s j) in
        let rv = product_residue v (map s js) (others x v h) in
        ap₂ (times p) (power_of_less p pr x (first x v h) (r j) (s j)) (product_less v js (others x v h))
        ∙ two_by_two _ _ _ _
        ∙ ap (times p _) (sym (inverse_product p pr _ _ rx rv))

  -- ---- the rows of the identity

  product_identity : (v : List ℕ) → length v ≡ 4 → AllResidues v → map (λ r. power_product p v (entries r)) identity_rows ≡ v
  unfolding power_product AllResidues
  product_identity = of_four (λ v. AllResidues v → map (λ r. power_product p v (entries r)) identity_rows ≡ v) go
    where
      go : (a b c d : ℕ) → AllResidues (a ∷ b ∷ c ∷ d ∷ [])
          → map (λ r. power_product p (a ∷ b ∷ c ∷ d ∷ []) (entries r)) identity_rows ≡ a ∷ b ∷ c ∷ d ∷ []
      go a b c d h =
          let ra : Residue p a = h 0 (omega arith) in
          let rb : Residue p b = h 1 (omega arith) in
          let rc : Residue p c = h 2 (omega arith) in
          let rd : Residue p d = h 3 (omega arith) in
          let r1 : Residue p 1 = residue_one p pr in
          simp (power_of_zero p pr, power_of_one p pr, one_times, times_one)

  -- ---- tables

  table_products : (xs : List Step) (v : List ℕ) → AllSound xs → Residues p v → do_all p xs v ≡ map (power_product p v) (table_of xs)
  unfolding AllResidues
  table_products xs v a g =
      let h : AllResidues v = λ i k. g.residue i (rw g.four at k) in
      let f : Row → ℕ = λ r. power_product p v (entries r) in
      sym
      (ap (map (power_product p v)) (table_rows xs a)
      ∙ of_four (λ m. map (power_product p v) (map entries m) ≡ map f m) (λ a b c d. refl) (row_steps xs identity_rows) (rows_four xs)
      ∙ map_act_all zeros ◌⊕◌ ◌⊖◌ 0 (times p) (quotient p) f (λ r s. product_plus r s v (indices 4) h) (λ r s. product_less r s v (indices 4) h) xs identity_rows a refl
      ∙ sym (do_all_act p xs (map f identity_rows))
      ∙ ap (do_all p xs) (product_identity v g.four h))

  -- a run from one position to another, whether the table is in range or not
  pub way_products : (xs : List Step) (i j : ℕ) (v : List ℕ) → AllSound xs → Residues p v
      → run p xs i j v ≡ map (power_product p v) (table_of (way xs i j))
  way_products xs i j v a g = run_way p xs i j v ∙ table_products (way xs i j) v (sound_way xs i j a) g

  -- from the start
  pub run_products : (xs : List Step) (n : ℕ) (v : List ℕ) → AllSound xs → Residues p v → run p xs 0 n v ≡ map (power_product p v) (table_of (take n xs))
  run_products xs n v a g = way_products xs 0 n v a g ∙ ap (λ (ys : List Step). map (power_product p v) (table_of ys)) (way_out xs n)

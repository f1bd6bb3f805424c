-- A table times a column is what its steps make of the column: the sum of products with a column keeps sums and differences of rows. So
-- the table of the way back takes each column of the table of the way out back to that of the identity. Column 1 is the trace.
use mathlib.Core.Path.{◌≡◌, refl, sym, ap, ap₂, ◌∙◌}
use mathlib.Core.List.{List, [], ◌∷◌, map}
use Prim.Native.Nat.{ℕ}
use lib.IntN.{ℤ, pos, ◌+ℤ◌, ◌-ℤ◌, ◌*ℤ◌, +ℤ_idl, +ℤ_idr, zero-*ℤ}
use lib.ListN.{length, get_or, take}
use Rattle.tape.specs.declared.Step.{Step}
use Rattle.tape.specs.Steps.{AllSound}
use Rattle.matrices.specs.Matrices.{Matrix, indices, column_of, transposed, dot, matrix_product, identity_matrix}
use Rattle.matrices.proofs.Laws.Rings.{sums, one_times, sum_times, opposite_times}
use Rattle.matrices.proofs.Laws.Determinants.{Row, entries, ◌⊕◌, ◌⊖◌}
use Rattle.machine.specs.Machine.{inverted}
use Rattle.machine.specs.Ways.{way}
use Rattle.machine.specs.Exponents.{shift_all, exponents_at}
use Rattle.machine.proofs.Laws.Lists.{of_four}
use Rattle.machine.proofs.Laws.Steps.{sound_inverted}
use Rattle.machine.proofs.Laws.Runs.{sound_take}
use Rattle.machine.proofs.Laws.Ways.{way_back, sound_way}
use Rattle.machine.proofs.Laws.Exponents.{length_shift_all, shift_back}
use Rattle.machine.proofs.Laws.Actions.{map_act_all, shift_all_act}
use Rattle.tables.specs.Tables.{unit, column_after, table_of}
use Rattle.tables.proofs.Laws.Rows.{zeros, row_steps, identity_rows, rows_four, table_rows, table_columns}

-- ---- rows times a column

module _ (w x y z : ℤ) where
  abbrev along : Row → ℤ
  along r = dot (entries r) (w ∷ x ∷ y ∷ z ∷ [])

  along_plus : (r s : Row) → along (r ⊕ s) ≡ along r +ℤ along s
  unfolding dot
  along_plus r s = simp (sum_times, sums)

  along_less : (r s : Row) → along (r ⊖ s) ≡ along r -ℤ along s
  unfolding dot
  along_less r s = simp (sum_times, opposite_times, sums)

  -- the identity times a column, with letters for 1 and 0: a product with a numeral would compute to cases of the other factor
  alone : (u o : ℤ) → ((k : ℤ) → u *ℤ k ≡ k) → ((k : ℤ) → o *ℤ k ≡ pos 0)
      → map (λ row. dot row (w ∷ x ∷ y ∷ z ∷ [])) ((u ∷ o ∷ o ∷ o ∷ []) ∷ (o ∷ u ∷ o ∷ o ∷ []) ∷ (o ∷ o ∷ u ∷ o ∷ []) ∷ (o ∷ o ∷ o ∷ u ∷ []) ∷ [])
      ≡ w ∷ x ∷ y ∷ z ∷ []
  unfolding dot
  alone u o one none = simp (one, none, +ℤ_idl, +ℤ_idr)

  along_identity : map along identity_rows ≡ w ∷ x ∷ y ∷ z ∷ []
  along_identity = alone (pos 1) (pos 0) one_times zero-*ℤ

  along_steps : (ys : List Step) → AllSound ys → map along (row_steps ys identity_rows) ≡ shift_all ys (w ∷ x ∷ y ∷ z ∷ [])
  along_steps ys a =
      map_act_all zeros ◌⊕◌ ◌⊖◌ (pos 0) ◌+ℤ◌ ◌-ℤ◌ along along_plus along_less ys identity_rows a refl
      ∙ sym (shift_all_act ys (map along identity_rows))
      ∙ ap (shift_all ys) along_identity

times_column : (ys : List Step) → AllSound ys → (z : List ℤ) → length z ≡ 4 → map (λ r. dot (entries r) z) (row_steps ys identity_rows) ≡ shift_all ys z
times_column ys a = of_four (λ z. map (λ r. dot (entries r) z) (row_steps ys identity_rows) ≡ shift_all ys z) (λ w x y z. along_steps w x y z ys a)

-- ---- tables

-- the second table's steps, then the first's
pub table_times : (ys xs : List Step) → AllSound ys → AllSound xs
    → matrix_product 4 (table_of ys) (table_of xs) ≡ transposed 4 (map (shift_all ys) (map (column_after xs) (indices 4)))
unfolding matrix_product
table_times ys xs b a =
    let columns = map (column_after xs) (indices 4) in
    ap₂ (λ (rows columns : Matrix). map (λ row. map (dot row) columns) rows) (table_rows ys b) (table_columns xs a)
    ∙ of_four (λ m. map (λ row. map (dot row) columns) (map entries m) ≡ transposed 4 (map (λ z. map (λ r. dot (entries r) z) m) columns))
    (λ a b c d. refl) (row_steps ys identity_rows) (rows_four ys)
    ∙ simp (done 0 refl, done 1 refl, done 2 refl, done 3 refl)
  where
    done : (j : ℕ) → length (unit j) ≡ 4 → map (λ r. dot (entries r) (column_after xs j)) (row_steps ys identity_rows) ≡ shift_all ys (column_after xs j)
    done j n = times_column ys b (column_after xs j) (length_shift_all xs (unit j) ∙ n)

table_inverted : (xs : List Step) → AllSound xs → matrix_product 4 (table_of (inverted xs)) (table_of xs) ≡ identity_matrix 4
unfolding identity_matrix
table_inverted xs a =
    table_times (inverted xs) xs (sound_inverted xs a) a
    ∙ simp (shift_back xs (unit 0) a refl, shift_back xs (unit 1) a refl, shift_back xs (unit 2) a refl, shift_back xs (unit 3) a refl)

-- the table of the way back times the table of the way out
pub table_back : (xs : List Step) (i j : ℕ) → AllSound xs → matrix_product 4 (table_of (way xs j i)) (table_of (way xs i j)) ≡ identity_matrix 4
table_back xs i j a =
    ap (λ (ys : List Step). matrix_product 4 (table_of ys) (table_of (way xs i j))) (way_back xs i j)
    ∙ table_inverted (way xs i j) (sound_way xs i j a)

-- column 1 is the trace with one unknown
pub table_trace : (xs : List Step) (n : ℕ) → AllSound xs → column_of (table_of (take n xs)) 1 ≡ exponents_at xs n
table_trace xs n a = ap (λ (columns : Matrix). get_or columns 1 []) (table_columns (take n xs) (sound_take n xs a))

-- The rows of a table are what its steps make of the rows of the identity, as they would of registers: a column of rows keeps their sums and
-- differences, so it keeps steps. Here a row is a function of the column.
use mathlib.Core.Path.{◌≡◌, refl, sym, ap, ◌∙◌}
use mathlib.Core.List.{List, map}
use Prim.Native.Nat.{ℕ}
use lib.IntN.{ℤ, pos, ◌+ℤ◌, ◌-ℤ◌}
use lib.ListN.{length}
use Rattle.tape.specs.declared.Step.{Step}
use Rattle.tape.specs.Steps.{AllSound}
use Rattle.matrices.specs.Matrices.{Matrix, indices, transposed, delta}
use Rattle.matrices.proofs.Laws.Determinants.{Row, entries, ◌⊕◌, ◌⊖◌}
use Rattle.machine.specs.Exponents.{shift_all}
use Rattle.machine.proofs.Laws.Lists.{of_four}
use Rattle.machine.proofs.Laws.Actions.{act, act_all, length_act_all, map_act_all, shift_all_act}
use Rattle.tables.specs.Tables.{column_after, table_of}

abbrev pub zeros : Row
zeros j = pos 0

-- a step on rows, and steps
abbrev pub row_step : Step → List Row → List Row
row_step = act zeros ◌⊕◌ ◌⊖◌

abbrev pub row_steps : List Step → List Row → List Row
row_steps = act_all zeros ◌⊕◌ ◌⊖◌

-- the rows of the identity: each register is its own start value
abbrev pub identity_rows : List Row
identity_rows = map delta (indices 4)

pub rows_four : (xs : List Step) → length (row_steps xs identity_rows) ≡ 4
rows_four xs = length_act_all zeros ◌⊕◌ ◌⊖◌ xs identity_rows

-- ---- columns of rows

abbrev column_in : List Row → ℕ → List ℤ
column_in m j = map (λ r. r j) m

column_steps : (xs : List Step) (j : ℕ) → AllSound xs → shift_all xs (column_in identity_rows j) ≡ column_in (row_steps xs identity_rows) j
column_steps xs j a =
    shift_all_act xs (column_in identity_rows j)
    ∙ sym (map_act_all zeros ◌⊕◌ ◌⊖◌ (pos 0) ◌+ℤ◌ ◌-ℤ◌ (λ r. r j) (λ r s. refl) (λ r s. refl) xs identity_rows a refl)

abbrev columns_in : List Row → Matrix
columns_in m = map (column_in m) (indices 4)

columns_steps : (xs : List Step) → AllSound xs → map (column_after xs) (indices 4) ≡ columns_in (row_steps xs identity_rows)
columns_steps xs a = simp (column_steps xs 0 a, column_steps xs 1 a, column_steps xs 2 a, column_steps xs 3 a)

-- ---- the table's rows, and its columns

pub table_rows : (xs : List Step) → AllSound xs → table_of xs ≡ map entries (row_steps xs identity_rows)
unfolding table_of
table_rows xs a =
    ap (transposed 4) (columns_steps xs a)
    ∙ of_four (λ m. transposed 4 (columns_in m) ≡ map entries m) (λ a b c d. refl) (row_steps xs identity_rows) (rows_four xs)

pub table_columns : (xs : List Step) → AllSound xs → transposed 4 (table_of xs) ≡ map (column_after xs) (indices 4)
table_columns xs a =
    ap (transposed 4) (table_rows xs a)
    ∙ of_four (λ m. transposed 4 (map entries m) ≡ columns_in m) (λ a b c d. refl) (row_steps xs identity_rows) (rows_four xs)
    ∙ sym (columns_steps xs a)

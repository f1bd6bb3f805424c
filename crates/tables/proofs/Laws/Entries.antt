-- A table by its entries: entry j of row i is start value j's exponent in register i; in one list, row by row, it stands at 4 i + j. Before any
-- step the table is the identity. Each is computed, for the sixteen entries.
use mathlib.Core.Path.{◌≡◌, refl}
use mathlib.Core.List.{List, []}
use Prim.Native.Nat.{ℕ, ◌+◌, ◌*◌, ◌<◌}
use lib.IntN.{pos}
use lib.ListN.{get_or}
use Rattle.tape.specs.declared.Step.{Step}
use Rattle.matrices.specs.Matrices.{entry_at, identity_matrix}
use Rattle.matrices.proofs.Laws.Below.{each_below_4}
use Rattle.machine.specs.Exponents.{exponent, shift_all}
use Rattle.tables.specs.Tables.{column_after, table_of, row_by_row}

pub table_start : table_of [] ≡ identity_matrix 4
unfolding table_of identity_matrix shift_all
table_start = refl

-- a fact of each entry
each_entry : (P : ℕ → ℕ → Type 0)
    → ((i : ℕ) → i < 4 → P i 0) → ((i : ℕ) → i < 4 → P i 1) → ((i : ℕ) → i < 4 → P i 2) → ((i : ℕ) → i < 4 → P i 3)
    → (i j : ℕ) → i < 4 → j < 4 → P i j
each_entry P a b c d i j h k = each_below_4 (λ j. P i j) (a i h) (b i h) (c i h) (d i h) j k

module _ (xs : List Step) where
  abbrev Is : ℕ → ℕ → Type 0
  Is i j = entry_at (table_of xs) i j ≡ exponent (column_after xs j) i

  pub entry_is : (i j : ℕ) → i < 4 → j < 4 → entry_at (table_of xs) i j ≡ exponent (column_after xs j) i
  unfolding entry_at table_of
  entry_is =
      each_entry Is
      (each_below_4 (λ i. Is i 0) refl refl refl refl)
      (each_below_4 (λ i. Is i 1) refl refl refl refl)
      (each_below_4 (λ i. Is i 2) refl refl refl refl)
      (each_below_4 (λ i. Is i 3) refl refl refl refl)

  abbrev Stands : ℕ → ℕ → Type 0
  Stands i j = get_or (row_by_row (table_of xs)) (4 * i + j) (pos 0) ≡ entry_at (table_of xs) i j

  pub entry_stands : (i j : ℕ) → i < 4 → j < 4 → get_or (row_by_row (table_of xs)) (4 * i + j) (pos 0) ≡ entry_at (table_of xs) i j
  unfolding entry_at table_of
  entry_stands =
      each_entry Stands
      (each_below_4 (λ i. Stands i 0) refl refl refl refl)
      (each_below_4 (λ i. Stands i 1) refl refl refl refl)
      (each_below_4 (λ i. Stands i 2) refl refl refl refl)
      (each_below_4 (λ i. Stands i 3) refl refl refl refl)

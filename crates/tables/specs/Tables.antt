-- Document 02, T-02: the exponent of each start value in each register, four by four whole numbers: a row for each register, a column for each
-- start value, 0 to 3.
use Rattle.std.specs.Prelude.{Bool, ◌&&◌, cond, List, [], ◌∷◌, ◌++◌, map, ℕ, ◌%◌, eqb, ℤ, pos, negsuc, set, Result}
use Rattle.refusal.specs.declared.Refusal.{Refusal}
use Rattle.refusal.specs.Refusals.{number_of}
use Rattle.refusal.specs.Outcomes.{Outcome, refused, answered, and_then, outcome_by}
use Rattle.matrices.specs.Matrices.{Matrix, indices, transposed}
use Rattle.modular.specs.Residues.{times}
use Rattle.tape.specs.declared.Step.{Step}
use Rattle.machine.specs.Exponents.{exponents_of, shift_all, stays_in_range, power_of}
use Rattle.tables.specs.declared.Table.{Table}

-- the exponents of start value j before any step: 1 in register j, 0 in the others
abbrev pub unit : ℕ → List ℤ
unit j = set (pos 0 ∷ pos 0 ∷ pos 0 ∷ pos 0 ∷ []) j (pos 1)

-- what steps make of start value j's exponents: a column
abbrev pub column_after : List Step → ℕ → List ℤ
column_after xs j = shift_all xs (unit j)

-- the four columns side by side
unfoldable pub table_of : List Step → Matrix
table_of xs = transposed 4 (map (column_after xs) (indices 4))

-- every entry is in the range at every position, the first and the last among them
unfoldable pub table_stays : List Step → Bool
table_stays xs = stays_in_range xs (unit 0) && stays_in_range xs (unit 1) && stays_in_range xs (unit 2) && stays_in_range xs (unit 3)

-- the product of values to the exponents of a row, modulo p
unfoldable pub power_product : ℕ → List ℕ → List ℤ → ℕ
power_product p [] row = 1
power_product p (x ∷ v) [] = 1
power_product p (x ∷ v) (e ∷ row) = times p (power_of p x e) (power_product p v row)

-- 1 for an even number, -1 for an odd one
unfoldable pub sign_of : ℕ → ℤ
sign_of n = cond (eqb (n % 2) 0) (pos 1) (negsuc 0)

-- ---- the code's values

-- the rows of a table of the code
abbrev pub matrix_of : Table → Matrix
matrix_of table = exponents_of table.c ∷ exponents_of table.d ∷ exponents_of table.e ∷ exponents_of table.f ∷ []

-- the outcome that an answer of the code stands for
abbrev pub table_outcome_of : Result Table Refusal → Outcome Matrix
table_outcome_of = outcome_by matrix_of

-- a table as one list, row by row, as C has it
abbrev pub row_by_row : Matrix → List ℤ
row_by_row [] = []
row_by_row (row ∷ rows) = row ++ row_by_row rows

abbrev pub list_outcome : Outcome Matrix → Outcome (List ℤ)
list_outcome o = and_then o (λ m. answered (row_by_row m))

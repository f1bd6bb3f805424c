-- Matrices of whole numbers by their rows, as in a textbook: the determinant by expansion along the first row, the product by rows and columns.
use Rattle.std.specs.Prelude.{cond, List, [], ◌∷◌, map, ℕ, zero, suc, eqb, ℤ, pos, ◌+ℤ◌, ◌-ℤ◌, ◌*ℤ◌, get_or, drop}

-- a list of rows
abbrev pub Matrix : Type 0
Matrix = List (List ℤ)

-- the numbers of n rows or columns, from i on; from 0 on
abbrev pub indices_from : ℕ → ℕ → List ℕ
indices_from i zero = []
indices_from i (suc n) = i ∷ indices_from (suc i) n

abbrev pub indices : ℕ → List ℕ
indices n = indices_from 0 n

-- entry j of row i
unfoldable pub entry_at : Matrix → ℕ → ℕ → ℤ
entry_at m i j = get_or (get_or m i []) j (pos 0)

-- column j
abbrev pub column_of : Matrix → ℕ → List ℤ
column_of m j = map (λ row. get_or row j (pos 0)) m

-- a matrix of n columns with its columns for rows
abbrev pub transposed : ℕ → Matrix → Matrix
transposed n m = map (column_of m) (indices n)

-- ---- determinant

-- f 0 - f 1 + f 2 - .., n numbers
unfoldable pub alternating_sum : ℕ → (ℕ → ℤ) → ℤ
alternating_sum zero f = pos 0
alternating_sum (suc n) f = f 0 -ℤ alternating_sum n (λ j. f (suc j))

-- a list without its entry j
unfoldable pub without : {A : Type 0} → ℕ → List A → List A
without j [] = []
without zero (x ∷ xs) = xs
without (suc j) (x ∷ xs) = x ∷ without j xs

-- a matrix without its first row and its column j
unfoldable pub minor : ℕ → Matrix → Matrix
minor j m = map (without j) (drop 1 m)

-- of n rows and columns
unfoldable pub determinant : ℕ → Matrix → ℤ
determinant zero m = pos 1
determinant (suc n) m = alternating_sum (suc n) (λ j. entry_at m 0 j *ℤ determinant n (minor j m))

-- ---- product

-- the sum of the products of entries that stand in the same place
unfoldable pub dot : List ℤ → List ℤ → ℤ
dot [] z = pos 0
dot (x ∷ row) [] = pos 0
dot (x ∷ row) (y ∷ z) = x *ℤ y +ℤ dot row z

-- each row of the first with each of the n columns of the second
unfoldable pub matrix_product : ℕ → Matrix → Matrix → Matrix
matrix_product n first second = map (λ row. map (dot row) (transposed n second)) first

-- 1 where the two are equal, else 0
abbrev pub delta : ℕ → ℕ → ℤ
delta i j = cond (eqb i j) (pos 1) (pos 0)

unfoldable pub identity_matrix : ℕ → Matrix
identity_matrix n = map (λ i. map (delta i) (indices n)) (indices n)

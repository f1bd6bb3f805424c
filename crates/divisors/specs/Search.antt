-- A bounded search, by which the tests and numbers of this layer and the next are defined.
use Rattle.std.specs.Prelude.{Bool, true, false, ℕ, zero, suc, ◌%◌, eqb}

-- the greatest number from 1 to n that passes the test; 0 where none does
unfoldable pub greatest : (ℕ → Bool) → ℕ → ℕ
greatest f zero = 0
greatest f (suc n) = elim (f (suc n)) [ true ↦ suc n | false ↦ greatest f n ]

-- d, which is at least 1, divides n
abbrev pub divides : ℕ → ℕ → Bool
divides d n = eqb (n % d) 0

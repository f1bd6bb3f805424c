-- Residues, and the product of two modulo p.
use Rattle.std.specs.Prelude.{ℕ, zero, suc, ◌*◌, ◌%◌, ◌≤◌, ◌<◌}

-- a number from 1 to p - 1
pub record Residue (p x : ℕ) : Type 0 where
  pub low : 1 ≤ x
  pub high : x < p

-- n modulo m for every m: modulo 0 it is 0, as it is modulo 1
unfoldable pub remainder : ℕ → ℕ → ℕ
remainder n zero = 0
remainder n (suc m) = n % suc m

-- the product of x and y modulo p
unfoldable pub times : ℕ → ℕ → ℕ → ℕ
times p x y = remainder (x * y) p

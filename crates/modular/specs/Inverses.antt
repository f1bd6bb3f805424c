-- REQUIREMENTS 2: the inverse of k modulo r, and the inverse service.
use Rattle.std.specs.Prelude.{◌≡◌, Bool, ◌&&◌, ◌||◌, cond, [], ◌∷◌, Option, Some, None, ℕ, zero, suc, ◌*◌, ◌-◌, ◌%◌, ◌≤◌, ◌<◌, leb, ltb, eqb}
use Rattle.std.specs.Int.{◌∣◌}
use Rattle.refusal.specs.declared.Refusal.TheVariants.{Order, Exponent}
use Rattle.refusal.specs.Outcomes.{Outcome, outcome, ◌given_if◌}
use Rattle.divisors.specs.Search.{greatest, divides}

-- no factor above 1 is shared
pub record Coprime (a b : ℕ) : Type 0 where
  pub only : (d : ℕ) → d ∣ a → d ∣ b → d ≡ 1

-- the greatest number that divides both a, which is at least 1, and b
unfoldable pub gcd : ℕ → ℕ → ℕ
gcd a b = greatest (λ (d : ℕ). divides d a && divides d b) a

-- y is the number from 1 to m - 1 whose product with x leaves 1 modulo m
pub record Inverse (m x y : ℕ) : Type 0 where
  pub low : 1 ≤ y
  pub high : y < m
  pub one : x * y % m ≡ 1

-- the inverse of x modulo m; 0 where there is none
unfoldable pub inverse : ℕ → ℕ → ℕ
inverse m x = greatest (λ (y : ℕ). eqb (x * y % m) 1) (m - 1)

-- a number of which 0 stands for none
unfoldable pub nonzero : ℕ → Option ℕ
nonzero zero = None
nonzero (suc n) = Some (suc n)

-- refusal 3: k is not from 1 to r - 1, or shares a factor above 1 with r
unfoldable pub bad_exponent : ℕ → ℕ → Bool
bad_exponent k r = eqb k 0 || leb r k || ltb 1 (gcd k r)

-- the inverse of an exponent k of an order r, where refusal 3 lets it pass
unfoldable pub exponent_inverse : ℕ → ℕ → Option ℕ
exponent_inverse k r = cond (bad_exponent k r) None (Some (inverse r k))

-- the inverse service
unfoldable pub inverse_outcome : ℕ → ℕ → Outcome ℕ
inverse_outcome k r =
    outcome
    ((Order given_if ltb r 2)
    ∷ (Exponent given_if bad_exponent k r)
    ∷ [])
    (inverse r k)

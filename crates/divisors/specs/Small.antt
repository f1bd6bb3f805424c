-- The small divisors of p, which the prime test asks for first: what one is, and the test whether there is one (`small_found` and
-- `small_test` of proofs/Laws/Small say that they agree).
use Rattle.std.specs.Prelude.{Bool, ◌&&◌, ℕ, ◌-◌, ◌≤◌, ◌<◌, leb, ltb}
use Rattle.std.specs.Int.{◌∣◌}
use Rattle.divisors.specs.Search.{greatest, divides}

-- 2^14, the root of the first number that is too large for a modulus
abbrev pub limit : ℕ
limit = 16384

-- d is from 2 to 2^14, is not p and divides it
pub record SmallDivisor (p d : ℕ) : Type 0 where
  pub low : 2 ≤ d
  pub high : d ≤ limit
  pub less : d < p
  pub divides : d ∣ p

-- the greatest number up to 2^14, and below p, that divides p is above 1
unfoldable pub has_small_divisor : ℕ → Bool
has_small_divisor p = ltb 1 (greatest (λ (d : ℕ). leb d limit && divides d p) (p - 1))

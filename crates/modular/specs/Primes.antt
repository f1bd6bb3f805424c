-- Prime numbers: what one is, and the test that decides it (`prime_test` and `test_prime` of proofs/Laws/Primes say that they agree).
use Rattle.std.specs.Prelude.{Bool, ◌&&◌, ℕ, ◌-◌, ◌≤◌, ◌<◌, leb, eqb}
use Rattle.std.specs.Int.{◌∣◌}
use Rattle.divisors.specs.Search.{greatest, divides}

-- at least 2, and no number between 1 and p divides it
pub record Prime (p : ℕ) : Type 0 where
  pub least : 2 ≤ p
  pub only : (d : ℕ) → 1 < d → d < p → ¬ (d ∣ p)

-- at least 2, and the greatest number below p that divides it is 1
unfoldable pub is_prime : ℕ → Bool
is_prime p = leb 2 p && eqb (greatest (λ (d : ℕ). divides d p) (p - 1)) 1

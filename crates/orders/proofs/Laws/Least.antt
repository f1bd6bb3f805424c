-- The least divisor of n: 2, or n where it is prime, or else the first odd number that divides n. A number of 32 bits that no number below 65536 divides is prime.
use Rattle.std.proofs.Common.{◌≡◌, refl, subst, ℕ, ◌+◌, ◌^◌, ◌%◌, ◌≤◌, ◌<◌}
use Prim.Native.Nat.{◌∣◌}
use native.Mathlib.Nat.{dvd_of_mod-eq-zero, dvd_refl, dvd_trans, mod-eq-zero_of_dvd, mul-le-mul}
use native.Mathlib.Omega.{arith}
use native.Mathlib.Decide.{dec_lt, ℕ_discrete}
use Rattle.divisors.proofs.Laws.Quotients.{no_multiple}
use Rattle.modular.specs.Primes.{Prime}
use Rattle.modular.proofs.Laws.Primes.{no_divisor_prime}
use Rattle.orders.specs.Inner.Least.{LeastDivisor}

pub least_prime : {n d : ℕ} → LeastDivisor n d → Prime d
least_prime l = record { least = l.low; only = λ e low high h. l.least e low high (dvd_trans e h l.divides) }

pub prime_least : (n : ℕ) → Prime n → LeastDivisor n n
prime_least n pr = record { low = pr.least; divides = dvd_refl n; least = pr.only }

pub two_least : (n : ℕ) → n % 2 ≡ 0 → LeastDivisor n 2
two_least n even = record { low = omega arith; divides = dvd_of_mod-eq-zero 2 even; least = λ e low high h. omega arith }

-- nothing from 2 up to d, which is odd, divides n
pub record Passed (n d : ℕ) : Type 0 where
  pub odd : d % 2 ≡ 1
  pub low : 3 ≤ d
  pub none : (e : ℕ) → 2 ≤ e → e < d → ¬ (e ∣ n)

pub passed_found : (n d : ℕ) → Passed n d → n % d ≡ 0 → LeastDivisor n d
passed_found n d s e = record { low = omega (arith, s.low); divides = dvd_of_mod-eq-zero d e; least = s.none }

-- past the root of a number of 32 bits
pub passed_ends : (n d : ℕ) → Passed n d → 2 ≤ n → n < 2 ^ 32 → 2 ^ 16 ≤ d → LeastDivisor n n
passed_ends n d s two small past =
    prime_least n
    (no_divisor_prime n two
    (λ e low root.
    s.none e low
    (elim (dec_lt e d) [ yes l ↦ l | no l ↦ let h : 2 ^ 16 ≤ e = omega arith in absurd (omega (arith, mul-le-mul h h)) ])))

module _ (n : ℕ) (odd : ¬ (n % 2 ≡ 0)) where
  pub passed_starts : Passed n 3
  passed_starts = record { odd = refl; low = omega arith; none = λ e low high. no_multiple n 2 e odd (omega arith) }

  pub passed_more : (d : ℕ) → Passed n d → ¬ (n % d ≡ 0) → Passed n (d + 2)
  passed_more d s other = record { odd = omega (arith, s.odd); low = omega (arith, s.low); none = none }
    where
      none : (e : ℕ) → 2 ≤ e → e < d + 2 → ¬ (e ∣ n)
      none e low high h =
          elim (dec_lt e d) [
            | yes l ↦ s.none e low l h
            | no l ↦
                elim (ℕ_discrete e d) [
                  | yes same ↦ other (mod-eq-zero_of_dvd d (subst (λ (x : ℕ). x ∣ n) same h))
                  | no more ↦ no_multiple n 2 e odd (omega (arith, s.odd)) h
                ]
          ]

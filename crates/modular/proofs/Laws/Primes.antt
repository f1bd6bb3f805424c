-- The prime test says what a prime is, and trial division up to the root decides it: of two factors one is at most the root.
-- A divisor that is no multiple of 2 or 3 leaves 1 or 5 modulo 6, so two trials serve for each six numbers.
use mathlib.Core.Path.{◌≡◌, refl, ap₂, subst}
use mathlib.Core.Logic.{◌⊎◌, inl, inr, ⊎_elim}
use mathlib.Core.Bool.{Bool, true, false, ◌&&◌}
use Prim.Native.Nat.{ℕ, ◌+◌, ◌*◌, ◌-◌, ◌/◌, ◌%◌, ◌≤◌, ◌<◌, ◌∣◌}
use native.Mathlib.Nat.{div-mul_cancel, dvd-mul_right, dvd_of_mod-eq-zero, mod-eq-zero_of_dvd, mod-one, mul-le-mul, mul-le-mul_left, mul-le-mul_right}
use native.Mathlib.Omega.{arith}
use native.Mathlib.Decide.{ℕ_discrete, dec_le, dec_lt}
use lib.Dec.{leb, eqb}
use borrow.Author.Tests.{eqb-true, eq-eqb, leb-true, le-leb}
use Rattle.divisors.specs.Small.{limit, SmallDivisor, has_small_divisor}
use Rattle.divisors.proofs.Laws.Small.{small_found, small_none}
use Rattle.divisors.proofs.Laws.Quotients.{no_multiple, cofactor_two}
use Rattle.divisors.specs.Search.{greatest, divides}
use Rattle.modular.specs.Primes.{Prime, is_prime}
use Rattle.refusal.proofs.Laws.Tests.{test_false, both}
use Rattle.divisors.proofs.Laws.Search.{greatest_most, greatest_is}

pub prime_test : (p : ℕ) → is_prime p ≡ true → Prime p
unfolding is_prime
prime_test p e =
    let f : ℕ → Bool = λ (d : ℕ). divides d p in
    let h : (leb 2 p ≡ true) × (eqb (greatest f (p - 1)) 1 ≡ true) = both _ _ e in
    let one : greatest f (p - 1) ≡ 1 = eqb-true _ _ h.1 in
    record {
      least = leb-true 2 p h.0;
      only = λ d low high z. omega (arith, greatest_most f (p - 1) d (omega arith) (omega arith) (eq-eqb (p % d) 0 (mod-eq-zero_of_dvd d z)));
    }

pub test_prime : (p : ℕ) → Prime p → is_prime p ≡ true
unfolding is_prime
test_prime p pr =
    ap₂ ◌&&◌ (le-leb 2 p pr.least)
    (eq-eqb _ 1
    (greatest_is (λ (d : ℕ). divides d p) (p - 1) 1 (omega arith) (omega (arith, pr.least)) (eq-eqb (p % 1) 0 (mod-one p))
    (λ d low high e. pr.only d low (omega (arith, pr.least)) (dvd_of_mod-eq-zero d (eqb-true (p % d) 0 e)))))

-- from 3 on a prime is odd
pub prime_odd : (p : ℕ) → Prime p → 3 ≤ p → p % 2 ≡ 1
prime_odd p pr three =
    elim (ℕ_discrete (p % 2) 0) [
      | yes even ↦ absurd (pr.only 2 (omega arith) (omega arith) (dvd_of_mod-eq-zero 2 even))
      | no odd ↦ omega arith
    ]

pub not_prime : (p : ℕ) → ¬ (Prime p) → is_prime p ≡ false
not_prime p no_prime = test_false (is_prime p) (λ e. no_prime (prime_test p e))

pub small_composite : (p : ℕ) → p < 2 → is_prime p ≡ false
small_composite p small = not_prime p (λ pr. omega (arith, pr.least))

pub divisor_composite : (p d : ℕ) → 1 < d → d < p → d ∣ p → is_prime p ≡ false
divisor_composite p d low high h = not_prime p (λ pr. pr.only d low high h)

-- the other factor of p, where d is one that is past the root
cofactor : (p d : ℕ) → d < p → d ∣ p → p < d * d → (q : ℕ) × (2 ≤ q) × (q * q ≤ p) × (q ∣ p)
cofactor p d less h past =
    let whole : p / d * d ≡ p = div-mul_cancel d h in
    (p / d, cofactor_two p d (p / d) less whole, root (p / d) whole, subst (λ (n : ℕ). p / d ∣ n) whole (dvd-mul_right (p / d) d))
  where
    root : (q : ℕ) → q * d ≡ p → q * q ≤ p
    root q e =
        elim (dec_le q d) [
          | yes l ↦ omega (arith, mul-le-mul_left q l)
          | no l ↦ absurd (omega (arith, mul-le-mul_right {m = d} {n = q} d (omega arith)))
        ]

-- trial division: no divisor up to the root
pub no_divisor_prime : (p : ℕ) → 2 ≤ p → ((d : ℕ) → 2 ≤ d → d * d ≤ p → ¬ (d ∣ p)) → Prime p
no_divisor_prime p two none = record { least = two; only = only }
  where
    only : (d : ℕ) → 1 < d → d < p → ¬ (d ∣ p)
    only d low high h =
        elim (dec_le (d * d) p) [
          | yes l ↦ none d low l h
          | no l ↦ let q = cofactor p d high h (omega arith) in none q.0 q.1 q.2 q.3
        ]

pub small_prime : (p : ℕ) → 2 ≤ p → p < 4 → is_prime p ≡ true
small_prime p two small =
    test_prime p (no_divisor_prime p two (λ d low root h. omega (arith, mul-le-mul {n₁ = 2} {m₁ = 2} low low)))

-- a number that is divisible by neither 2 nor 3 leaves 1 or 5 modulo 6
pub leaves_one_or_five : (e : ℕ) → ¬ (e % 2 ≡ 0) → ¬ (e % 3 ≡ 0) → (e % 6 ≡ 1) ⊎ (e % 6 ≡ 5)
leaves_one_or_five e odd other =
    elim (ℕ_discrete (e % 6) 3) [
      | yes three ↦ absurd (omega arith)
      | no not_three ↦ elim (ℕ_discrete (e % 6) 1) [ yes one ↦ inl one | no not_one ↦ inr (omega arith) ]
    ]

-- nothing from 2 up to d, which leaves 5 modulo 6, divides p
pub record Tried (p d : ℕ) : Type 0 where
  pub five : d % 6 ≡ 5
  pub low : 5 ≤ d
  pub none : (e : ℕ) → 2 ≤ e → e < d → ¬ (e ∣ p)

module _ (p : ℕ) (odd : ¬ (p % 2 ≡ 0)) (other : ¬ (p % 3 ≡ 0)) where
  -- a divisor leaves 1 or 5 modulo 6 as well
  divisor_leaves : (e : ℕ) → e ∣ p → (e % 6 ≡ 1) ⊎ (e % 6 ≡ 5)
  divisor_leaves e h =
      leaves_one_or_five e (λ z. no_multiple p 2 e odd z h) (λ z. no_multiple p 3 e other z h)

  pub tried_start : Tried p 5
  tried_start =
      record {
        five = refl;
        low = omega arith;
        none = λ e low high h. ⊎_elim (λ z. omega arith) (λ z. omega arith) (divisor_leaves e h);
      }

  -- d and d + 2 do not divide p, and no other of the six numbers from d can
  pub tried_more : (d : ℕ) → Tried p d → ¬ (p % d ≡ 0) → ¬ (p % (d + 2) ≡ 0) → Tried p (d + 6)
  tried_more d t first second = record { five = omega (arith, t.five); low = omega (arith, t.low); none = none }
    where
      at : (f : ℕ) → ¬ (p % f ≡ 0) → (e : ℕ) → e ≡ f → ¬ (e ∣ p)
      at f no_zero e same h = no_zero (rw same at (mod-eq-zero_of_dvd e h))

      none : (e : ℕ) → 2 ≤ e → e < d + 6 → ¬ (e ∣ p)
      none e low high h =
          elim (dec_lt e d) [
            | yes l ↦ t.none e low l h
            | no l ↦
                ⊎_elim
                (λ z. at (d + 2) second e (omega (arith, t.five)) h)
                (λ z. at d first e (omega (arith, t.five)) h)
                (divisor_leaves e h)
          ]

-- by the table of small divisors, of a p above them
pub small_divisor_composite : (p : ℕ) → has_small_divisor p ≡ true → is_prime p ≡ false
small_divisor_composite p e =
    let found : (d : ℕ) × SmallDivisor p d = small_found p e in
    divisor_composite p found.0 found.1.low found.1.less found.1.divides

pub tried_small : (p : ℕ) → limit < p → has_small_divisor p ≡ false → Tried p (limit + 1)
tried_small p above none =
    record {
      five = refl;
      low = omega arith;
      none = λ e low high h. small_none p none e (record { low = low; high = omega arith; less = omega arith; divides = h });
    }

-- past the root everything that matters is tried
pub tried_prime : (p d : ℕ) → 2 ≤ p → Tried p d → p < d * d → is_prime p ≡ true
tried_prime p d two t past = test_prime p (no_divisor_prime p two (λ e low root. t.none e low (below e root)))
  where
    below : (e : ℕ) → e * e ≤ p → e < d
    below e root =
        elim (dec_lt e d) [
          | yes l ↦ l
          | no l ↦ let h : d ≤ e = omega arith in absurd (omega (arith, mul-le-mul h h))
        ]

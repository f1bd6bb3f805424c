-- Prime divisors: a prime that divides a product divides one of its factors, and every number from 2 on has one. The list of those of r up to
-- n has all of them and nothing else: with each next number it stays, or the number is a prime divisor and is put behind.
use mathlib.Core.Path.{◌≡◌, sym, ap, subst, ◌∙◌}
use mathlib.Core.Logic.{◌⊎◌, inl, inr, ⊎_elim}
use mathlib.Core.Bool.{Bool, ◌&&◌, true≢false}
use mathlib.Core.List.{List, [], ◌∷◌, ◌++◌, append-nil}
use Prim.Native.Nat.{ℕ, zero, suc, ◌*◌, ◌-◌, ◌%◌, ◌≤◌, ◌<◌, ◌∣◌}
use native.Mathlib.Nat.{dvd_of_mod-eq-zero, dvd_refl, dvd_trans, emod_pos_of_not-dvd, mod-eq-zero_of_dvd, mod-lt, mod-one}
use native.Mathlib.Omega.{arith}
use native.Mathlib.Decide.{dec_dvd, dec_lt}
use lib.ListN.{length, get_or, length-append, get_or-append}
use lib.Seq.{get_or_at}
use borrow.Author.Tests.{eqb-true, eqb-false, eq-eqb, le-leb}
use Rattle.refusal.proofs.Laws.Tests.{by_test, both, and_both}
use Rattle.divisors.specs.Search.{greatest, divides}
use Rattle.divisors.proofs.Laws.Search.{greatest_at_most, greatest_passes, greatest_most}
use Rattle.modular.specs.Primes.{Prime, is_prime}
use Rattle.modular.specs.Residues.{Residue, times}
use Rattle.modular.proofs.Laws.Primes.{prime_test, test_prime}
use Rattle.modular.proofs.Laws.Residues.{mul_mod_left, mul_mod_right}
use Rattle.modular.proofs.Laws.Group.{times_prime, residue_times}
use Rattle.orders.specs.PrimeDivisors.{primes_to}

-- Euclid's lemma: residues that aren't 0 have a product that isn't
pub prime_divides : (q : ℕ) → Prime q → (x y : ℕ) → q ∣ x * y → ¬ (q ∣ x) → q ∣ y
prime_divides q pr x y h other =
    elim (dec_dvd q y) [
      | yes d ↦ d
      | no d ↦ absurd (omega (arith, gone, (residue_times q pr (x % q) (y % q) (residue x other) (residue y d)).low))
    ]
  where
    residue : (n : ℕ) → ¬ (q ∣ n) → Residue q (n % q)
    residue n no_divisor = record { low = emod_pos_of_not-dvd q no_divisor; high = mod-lt n (omega (arith, pr.least)) }

    gone : times q (x % q) (y % q) ≡ 0
    gone = times_prime q pr (x % q) (y % q) ∙ mul_mod_left x (y % q) q ∙ mul_mod_right x y q ∙ mod-eq-zero_of_dvd q h

-- a number that isn't prime has a smaller divisor above 1, and so on down to a prime
prime_below : (fuel n : ℕ) → n < fuel → 2 ≤ n → (q : ℕ) × Prime q × (q ∣ n)
unfolding is_prime
prime_below zero n enough two = absurd (omega arith)
prime_below (suc fuel) n enough two =
    by_test (is_prime n)
    (λ e. (n, prime_test n e, dvd_refl n))
    (λ e.
    let f : ℕ → Bool = λ (d : ℕ). divides d n in
    let d = greatest f (n - 1) in
    let low : 1 ≤ d = greatest_most f (n - 1) 1 (omega arith) (omega arith) (eq-eqb (n % 1) 0 (mod-one n)) in
    let other : ¬ (d ≡ 1) = eqb-false d 1 (rw (le-leb 2 n two) at e) in
    let found = prime_below fuel d (omega (arith, greatest_at_most f (n - 1))) (omega arith) in
    (found.0, found.1, dvd_trans found.0 found.2 (dvd_of_mod-eq-zero d (eqb-true _ 0 (greatest_passes f (n - 1) low)))))

pub prime_divisor : (n : ℕ) → 2 ≤ n → (q : ℕ) × Prime q × (q ∣ n)
prime_divisor n two = prime_below (suc n) n (omega arith) two

-- ---- the list

module _ (r : ℕ) where
  -- a prime divisor of r
  abbrev pub Divisor : ℕ → Type 0
  Divisor q = Prime q × (q ∣ r)

  -- the next number is one, or not
  pub primes_cases : (n : ℕ) → ((primes_to r (suc n) ≡ primes_to r n ++ suc n ∷ []) × Divisor (suc n)) ⊎ ((primes_to r (suc n) ≡ primes_to r n) × ¬ (Divisor (suc n)))
  unfolding primes_to
  primes_cases n =
      by_test (is_prime (suc n) && divides (suc n) r)
      (λ e.
      let tests = both (is_prime (suc n)) _ e in
      inl (rw e, (prime_test (suc n) tests.0, dvd_of_mod-eq-zero (suc n) (eqb-true _ 0 tests.1))))
      (λ e. inr (rw e (append-nil (primes_to r n)), λ d. true≢false (sym (and_both _ _ (test_prime (suc n) d.0) (eq-eqb _ 0 (mod-eq-zero_of_dvd (suc n) d.1))) ∙ e)))

  -- from m up to n there is none
  pub primes_none : (m n : ℕ) → m ≤ n → ((e : ℕ) → m < e → e ≤ n → ¬ (Divisor e)) → primes_to r n ≡ primes_to r m
  primes_none m zero low none = ap (primes_to r) (omega arith)
  primes_none m (suc n) low none =
      elim (dec_lt n m) [
        | yes h ↦ ap (primes_to r) (omega arith)
        | no h ↦
            ⊎_elim
            (λ c. absurd (none (suc n) (omega arith) (omega arith) c.1))
            (λ c. c.0 ∙ primes_none m n (omega arith) (λ e above high. none e above (omega arith)))
            (primes_cases n)
      ]

  -- d is the next one above m
  pub primes_next : (m d : ℕ) → m < d → Divisor d → ((e : ℕ) → m < e → e < d → ¬ (Divisor e)) → primes_to r d ≡ primes_to r m ++ d ∷ []
  primes_next m zero above is none = absurd (omega arith)
  primes_next m (suc n) above is none =
      ⊎_elim
      (λ c. c.0 ∙ ap (λ (l : List ℕ). l ++ suc n ∷ []) (primes_none m n (omega arith) (λ e low high. none e low (omega arith))))
      (λ c. absurd (c.1 is))
      (primes_cases n)

  -- each entry is at least 2
  behind : (n i : ℕ) → 2 ≤ suc n → (i < length (primes_to r n) → 2 ≤ get_or (primes_to r n) i 0) → i < length (primes_to r n ++ suc n ∷ [])
      → 2 ≤ get_or (primes_to r n ++ suc n ∷ []) i 0
  behind n i two before inside =
      elim (dec_lt i (length (primes_to r n))) [
        | yes h ↦ rw (get_or-append (primes_to r n) (suc n ∷ []) 0 i h) (before h)
        | no h ↦
            let last : length (primes_to r n) ≡ i = omega (arith, length-append (primes_to r n) (suc n ∷ [])) in
            rw (get_or_at (primes_to r n) (suc n) [] 0 i last) two
      ]

  pub primes_two : (n i : ℕ) → i < length (primes_to r n) → 2 ≤ get_or (primes_to r n) i 0
  unfolding primes_to
  primes_two zero i inside = absurd (omega arith)
  primes_two (suc n) i inside =
      ⊎_elim
      (λ c. subst (λ (l : List ℕ). i < length l → 2 ≤ get_or l i 0) (sym c.0) (behind n i c.1.0.least (primes_two n i)) inside)
      (λ c. subst (λ (l : List ℕ). i < length l → 2 ≤ get_or l i 0) (sym c.0) (primes_two n i) inside)
      (primes_cases n)

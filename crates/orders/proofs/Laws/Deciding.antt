-- An order is decided by the prime divisors of r. Where r gives 1 and so does some n below it, so does r modulo n, and so on down to an
-- exponent m below r that divides r. A prime divisor q of r / m is one of r, and m divides r / q, which therefore gives 1.
use mathlib.Core.Path.{◌≡◌, refl, sym, ap, subst, subst₂, ◌∙◌}
use mathlib.Core.Logic.{⊎_elim}
use mathlib.Core.Bool.{true, false, not, true≢false}
use mathlib.Core.List.{List, [], ◌∷◌, ◌++◌}
use Prim.Native.Nat.{ℕ, zero, suc, ◌*◌, ◌/◌, ◌%◌, ◌^◌, ◌≤◌, ◌<◌, ◌∣◌}
use native.Mathlib.Nat.{div-lt_self, div-mul_cancel, dvd-mul_right, dvd_of_mod-eq-zero, dvd_of_mul-dvd-mul_right, dvd_trans, le_of_dvd, mod-eq-zero_of_dvd, mod-lt, mod_self, mul_comm, mul-dvd-mul_right, zero-mul}
use native.Mathlib.Omega.{arith}
use native.Mathlib.Decide.{ℕ_discrete}
use lib.Dec.{leb}
use borrow.Author.Tests.{eqb-true, eq-eqb, ne_eqb, leb-true, le-leb, not-true}
use Rattle.refusal.proofs.Laws.Tests.{both, and_both, test_false, agree}
use Rattle.divisors.proofs.Laws.Quotients.{cofactor_two}
use Rattle.modular.proofs.Laws.Powers.{pow_order, pow_congruent}
use Rattle.orders.specs.Orders.{OrderOf, gives_one, is_order}
use Rattle.orders.specs.PrimeDivisors.{primes_to, primes_of, none_gives_one, is_order_by_primes}
use Rattle.orders.proofs.Laws.Orders.{order_test, test_order}
use Rattle.orders.proofs.Laws.Factors.{prime_divisor, Divisor, primes_cases}

module _ (p a r : ℕ) where
  -- r / q doesn't give 1
  abbrev GivesOther : ℕ → Type 0
  GivesOther q = ¬ (a ^ (r / q) % p ≡ 1)

  -- ---- what the test of the list says of each prime divisor, and back

  none_behind : (qs : List ℕ) (q : ℕ) → none_gives_one p a r (qs ++ q ∷ []) ≡ true → (none_gives_one p a r qs ≡ true) × GivesOther q
  unfolding none_gives_one
  none_behind [] q e = (refl, λ one. true≢false (sym (eq-eqb _ 1 one) ∙ not-true _ (both (not (gives_one p a (r / q))) true e).0))
  none_behind (x ∷ qs) q e =
      let first = both (not (gives_one p a (r / x))) _ e in
      let rest = none_behind qs q first.1 in
      (and_both _ _ first.0 rest.0, rest.1)

  behind_none : (qs : List ℕ) (q : ℕ) → none_gives_one p a r qs ≡ true → GivesOther q → none_gives_one p a r (qs ++ q ∷ []) ≡ true
  unfolding none_gives_one
  behind_none [] q e no_one = and_both _ true (ap not (test_false _ (λ t. no_one (eqb-true _ 1 t)))) refl
  behind_none (x ∷ qs) q e no_one =
      let first = both (not (gives_one p a (r / x))) _ e in
      and_both _ _ first.0 (behind_none qs q first.1 no_one)

  each_not : (n q : ℕ) → Divisor r q → q ≤ n → none_gives_one p a r (primes_to r n) ≡ true → GivesOther q
  each_not zero q is high e = absurd (omega (arith, is.0.least))
  each_not (suc n) q is high e =
      ⊎_elim
      (λ c.
      let tests = none_behind (primes_to r n) (suc n) (ap (none_gives_one p a r) (sym c.0) ∙ e) in
      elim (ℕ_discrete q (suc n)) [ yes same ↦ subst GivesOther (sym same) tests.1 | no other ↦ each_not n q is (omega arith) tests.0 ])
      (λ c.
      let other : ¬ (q ≡ suc n) = λ same. c.1 (subst (Divisor r) same is) in
      each_not n q is (omega arith) (ap (none_gives_one p a r) (sym c.0) ∙ e))
      (primes_cases r n)

  all_not : ((q : ℕ) → Divisor r q → GivesOther q) → (n : ℕ) → none_gives_one p a r (primes_to r n) ≡ true
  unfolding primes_to none_gives_one
  all_not none zero = refl
  all_not none (suc n) =
      let before = all_not none n in
      ⊎_elim
      (λ c. ap (none_gives_one p a r) c.0 ∙ behind_none (primes_to r n) (suc n) before (none (suc n) c.1))
      (λ c. ap (none_gives_one p a r) c.0 ∙ before)
      (primes_cases r n)

  -- ---- the exponents that give 1

  dividing : a ^ r % p ≡ 1 → (fuel n : ℕ) → n < fuel → 1 ≤ n → n < r → a ^ n % p ≡ 1 → (m : ℕ) × (1 ≤ m) × (m < r) × (m ∣ r) × (a ^ m % p ≡ 1)
  dividing whole zero n enough low high one = absurd (omega arith)
  dividing whole (suc fuel) n enough low high one =
      let less = mod-lt r low in
      elim (ℕ_discrete (r % n) 0) [
        | yes e ↦ (n, low, high, dvd_of_mod-eq-zero n e, one)
        | no e ↦ dividing whole fuel (r % n) (omega arith) (omega arith) (omega arith) (pow_order p a n r one ∙ whole)
      ]

  -- a divisor m of r that gives 1 is a divisor of some r / q
  divisor_gives : (m : ℕ) → 1 ≤ m → m < r → m ∣ r → a ^ m % p ≡ 1 → ¬ ((q : ℕ) → Divisor r q → GivesOther q)
  divisor_gives m low high h one none =
      let whole : r / m * m ≡ r = div-mul_cancel m h in
      let found = prime_divisor (r / m) (cofactor_two r m (r / m) high whole) in
      let q = found.0 in
      let q_divides : q ∣ r = dvd_trans q found.2 (subst (λ (n : ℕ). r / m ∣ n) whole (dvd-mul_right (r / m) m)) in
      let product : m * q ∣ r / q * q = subst₂ ◌∣◌ (mul_comm q m) (whole ∙ sym (div-mul_cancel q q_divides)) (mul-dvd-mul_right q found.2 m) in
      let m_divides : m ∣ r / q = dvd_of_mul-dvd-mul_right m (omega (arith, found.1.least)) product in
      none q (found.1, q_divides) (pow_congruent p a m (r / q) m one (mod-eq-zero_of_dvd m m_divides ∙ sym (mod_self m)) ∙ one)

  -- ---- the test by primes says what an order is

  primes_order : is_order_by_primes p a r ≡ true → OrderOf p a r
  primes_order e =
      let first = both (leb 1 r) _ e in
      let second = both (gives_one p a r) _ first.1 in
      let low = leb-true 1 r first.0 in
      let one = eqb-true _ 1 second.0 in
      record {
        low = low;
        one = one;
        least = λ n some less gives.
            let m = dividing one (suc n) n (omega arith) some less gives in
            divisor_gives m.0 m.1 m.2 m.3 m.4 (λ q is. each_not r q is (le_of_dvd low is.1) second.1);
      }

  order_primes : OrderOf p a r → is_order_by_primes p a r ≡ true
  order_primes o =
      and_both (leb 1 r) _ (le-leb 1 r o.low)
      (and_both (gives_one p a r) _ (eq-eqb _ 1 o.one) (all_not (λ q is. o.least (r / q) (some q is) (div-lt_self o.low is.0.least)) r))
    where
      some : (q : ℕ) → Divisor r q → 1 ≤ r / q
      some q is =
          elim (ℕ_discrete (r / q) 0) [
            | yes z ↦ absurd (omega (arith, o.low, sym (div-mul_cancel q is.1) ∙ ap (λ (n : ℕ). n * q) z ∙ zero-mul q))
            | no z ↦ omega arith
          ]

  -- the prime divisors decide
  pub order_by_primes : is_order p a r ≡ is_order_by_primes p a r
  order_by_primes = agree _ _ (λ e. order_primes (order_test p a r e)) (λ e. test_order p a r (primes_order e))

  -- ---- the test by cases, as the code asks

  pub order_of_zero : r ≡ 0 → is_order p a r ≡ false
  order_of_zero z = test_false _ (λ e. omega (arith, (order_test p a r e).low))

  pub order_no_power : ¬ (a ^ r % p ≡ 1) → is_order p a r ≡ false
  order_no_power other = test_false _ (λ e. other (order_test p a r e).one)

  pub order_by_list : 1 ≤ r → a ^ r % p ≡ 1 → is_order p a r ≡ none_gives_one p a r (primes_of r)
  order_by_list low one = order_by_primes ∙ rw (le-leb 1 r low, eq-eqb _ 1 one)

  pub one_given : (q : ℕ) (qs : List ℕ) → a ^ (r / q) % p ≡ 1 → none_gives_one p a r (q ∷ qs) ≡ false
  unfolding none_gives_one
  one_given q qs one = rw (eq-eqb _ 1 one)

  pub one_not_given : (q : ℕ) (qs : List ℕ) → ¬ (a ^ (r / q) % p ≡ 1) → none_gives_one p a r (q ∷ qs) ≡ none_gives_one p a r qs
  unfolding none_gives_one
  one_not_given q qs other = rw (ne_eqb _ 1 other)

  pub none_left : none_gives_one p a r [] ≡ true
  unfolding none_gives_one
  none_left = refl

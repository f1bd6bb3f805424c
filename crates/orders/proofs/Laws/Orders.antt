-- The test of an order says what an order is. A power of a whose exponent has an inverse modulo r has a's order: a is a power of it in turn,
-- so an exponent that gives 1 for the one gives 1 for the other.
use mathlib.Core.Path.{◌≡◌, refl, sym, ap, ◌∙◌}
use mathlib.Core.Bool.{true}
use mathlib.Core.Logic.{⊎_elim}
use Prim.Native.Nat.{ℕ, ◌*◌, ◌-◌, ◌%◌, ◌^◌, ◌<◌}
use native.Mathlib.Nat.{eq-zero-or-pos, mod-eq_of_lt, one-mul}
use native.Mathlib.Omega.{arith}
use native.Mathlib.Decide.{dec_lt}
use lib.Dec.{leb}
use borrow.Author.Tests.{eqb-true, eq-eqb, leb-true, le-leb}
use Rattle.refusal.proofs.Laws.Tests.{both, and_both}
use Rattle.divisors.specs.Search.{greatest}
use Rattle.divisors.proofs.Laws.Search.{greatest_at_most, greatest_passes, greatest_most}
use Rattle.modular.specs.Primes.{Prime}
use Rattle.modular.proofs.Laws.Residues.{mul_mod_left}
use Rattle.modular.proofs.Laws.Powers.{pow_pow, one_pow, pow_congruent, order_power}
use Rattle.orders.specs.Orders.{OrderOf, gives_one, is_order}

module _ (p a r : ℕ) where
  pub order_test : is_order p a r ≡ true → OrderOf p a r
  unfolding is_order
  order_test e =
      let first = both (leb 1 r) _ e in
      let second = both (gives_one p a r) _ first.1 in
      let none = eqb-true (greatest (gives_one p a) (r - 1)) 0 second.1 in
      record {
        low = leb-true 1 r first.0;
        one = eqb-true _ 1 second.0;
        least = λ n low high one. omega (arith, none, greatest_most (gives_one p a) (r - 1) n low (omega arith) (eq-eqb _ 1 one));
      }

  pub test_order : OrderOf p a r → is_order p a r ≡ true
  unfolding is_order
  test_order o =
      let n : ℕ = greatest (gives_one p a) (r - 1) in
      let less : n < r = omega (arith, o.low, greatest_at_most (gives_one p a) (r - 1)) in
      let none : n ≡ 0 =
      ⊎_elim (λ e. e) (λ some. absurd (o.least n some less (eqb-true _ 1 (greatest_passes (gives_one p a) (r - 1) some)))) (eq-zero-or-pos n) in
      and_both (leb 1 r) _ (le-leb 1 r o.low) (and_both (gives_one p a r) _ (eq-eqb _ 1 o.one) (eq-eqb n 0 none))

-- there is one at most
pub order_unique : (p a r s : ℕ) → OrderOf p a r → OrderOf p a s → r ≡ s
order_unique p a r s o q =
    elim (dec_lt r s) [
      | yes h ↦ absurd (q.least r o.low h o.one)
      | no h ↦ elim (dec_lt s r) [ yes k ↦ absurd (o.least s q.low k q.one) | no k ↦ omega arith ]
    ]

-- E has an inverse modulo r; modulo 1 every number has
abbrev pub Invertible : ℕ → ℕ → Type 0
Invertible r E = (E' : ℕ) × (E * E' % r ≡ 1 % r)

pub invertible_one : (r : ℕ) → Invertible r 1
invertible_one r = (1, refl)

pub invertible_times : (r E k : ℕ) → Invertible r E → Invertible r k → Invertible r (E * k % r)
invertible_times r E k (E', e) (K, f) = (
  E' * K,
  mul_mod_left (E * k) (E' * K) r
      ∙ ap (λ (x : ℕ). x % r) (omega arith)
      ∙ sym (mul_mod_left (E * E') (k * K) r)
      ∙ ap (λ (x : ℕ). x * (k * K) % r) e
      ∙ mul_mod_left 1 (k * K) r
      ∙ ap (λ (x : ℕ). x % r) (one-mul (k * K))
      ∙ f,
)

pub order_again : (p : ℕ) → Prime p → (a r E : ℕ) → Invertible r E → OrderOf p a r → OrderOf p (a ^ E % p) r
order_again p pr a r E (E', inverse) o =
    record { low = o.low; one = order_power p pr a r E o.one; least = λ n low high one. o.least n low high (back n one) }
  where
    same : (n : ℕ) → n % r ≡ E * n * E' % r
    same n =
        ap (λ (x : ℕ). x % r) (sym (one-mul n))
        ∙ sym (mul_mod_left 1 n r)
        ∙ ap (λ (x : ℕ). x * n % r) (sym inverse)
        ∙ mul_mod_left (E * E') n r
        ∙ ap (λ (x : ℕ). x % r) (omega arith)

    back : (n : ℕ) → (a ^ E % p) ^ n % p ≡ 1 → a ^ n % p ≡ 1
    back n one =
        pow_congruent p a r n (E * n * E') o.one (same n)
        ∙ sym (pow_pow p a (E * n) E')
        ∙ ap (λ (x : ℕ). x ^ E' % p) (sym (pow_pow p a E n) ∙ one)
        ∙ ap (λ (x : ℕ). x % p) (one_pow E')
        ∙ mod-eq_of_lt pr.least

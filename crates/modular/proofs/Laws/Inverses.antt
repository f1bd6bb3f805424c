-- `inverse` is the only inverse, and there is one exactly where x and m share no factor above 1. An exponent k of an order r that
-- is not refused has one, and the inverse is such an exponent itself, whose inverse is k.
use mathlib.Core.Path.{◌≡◌, refl, sym, ◌∙◌, ap, ap₂, subst}
use mathlib.Core.Logic.{⊎_elim}
use mathlib.Core.Bool.{true, false, true≢false, ◌&&◌, ◌||◌}
use Prim.Native.Nat.{ℕ, zero, suc, ◌*◌, ◌-◌, ◌%◌, ◌≤◌, ◌<◌, ◌∣◌}
use native.Mathlib.Nat.{dvd-mod_iff, dvd-mul_right_of_dvd, dvd_of_mod-eq-zero, eq-one_of_dvd-one, eq-zero-or-pos, le_of_dvd, mod-eq_of_lt, mod-eq-zero_of_dvd, mod-one, mul-one, one-dvd, one-mul, pos_of_dvd_of_pos, zero-mod, zero-mul}
use native.Mathlib.Omega.{arith}
use Rattle.std.specs.Prelude.{Some, None}
use Rattle.std.specs.Option.{unwrap_or}
use Rattle.std.proofs.lemmas.Option.{none-some, same_Some}
use lib.Dec.{leb, ltb, eqb}
use borrow.Author.Tests.{eqb-true, eqb-false, eq-eqb, ne_eqb, leb-false, lt-leb, ltb-false, le-ltb}
use Rattle.divisors.specs.Search.{divides}
use Rattle.modular.specs.Inverses.{Coprime, gcd, Inverse, inverse, nonzero, bad_exponent, exponent_inverse}
use Rattle.refusal.proofs.Laws.Tests.{by_test, test_true, both, neither}
use Rattle.divisors.proofs.Laws.Search.{greatest_at_most, greatest_passes, greatest_most, greatest_is}
use Rattle.modular.proofs.Laws.Residues.{mul_mod_left, mul_mod_right}
use Rattle.modular.proofs.Laws.Ends.{coprime_inverse}

-- y and z are each x * y * z modulo m
pub inverse_unique : {m x y z : ℕ} → Inverse m x y → Inverse m x z → y ≡ z
inverse_unique {m} {x} {y} {z} v w =
    sym (mod-eq_of_lt v.high)
    ∙ ap (λ (n : ℕ). n % m) (sym (mul-one y))
    ∙ sym (ap (λ (n : ℕ). y * n % m) w.one)
    ∙ mul_mod_right y (x * z) m
    ∙ ap (λ (n : ℕ). n % m) (omega arith)
    ∙ sym (mul_mod_left (x * y) z m)
    ∙ ap (λ (n : ℕ). n * z % m) v.one
    ∙ ap (λ (n : ℕ). n % m) (one-mul z)
    ∙ mod-eq_of_lt w.high

pub inverse_is : (m x y : ℕ) → Inverse m x y → inverse m x ≡ y
unfolding inverse
inverse_is m x y v =
    greatest_is (λ (z : ℕ). eqb (x * z % m) 1) (m - 1) y v.low (omega (arith, v.high)) (eq-eqb (x * y % m) 1 v.one)
    (λ z above high e. omega (arith, inverse_unique v (other z above high e)))
  where
    other : (z : ℕ) → y < z → z ≤ m - 1 → eqb (x * z % m) 1 ≡ true → Inverse m x z
    other z above high e = record { low = omega arith; high = omega (arith, v.high); one = eqb-true (x * z % m) 1 e }

pub inverse_most : (m x : ℕ) → inverse m x ≤ m - 1
unfolding inverse
inverse_most m x = greatest_at_most (λ (y : ℕ). eqb (x * y % m) 1) (m - 1)

-- what the search finds is an inverse
pub inverse_found : (m x : ℕ) → 1 ≤ inverse m x → Inverse m x (inverse m x)
unfolding inverse
inverse_found m x some =
    record {
      low = some;
      high = omega (arith, inverse_most m x);
      one = eqb-true (x * inverse m x % m) 1 (greatest_passes (λ (y : ℕ). eqb (x * y % m) 1) (m - 1) some);
    }

pub inverse_coprime : {m x y : ℕ} → Inverse m x y → Coprime x m
inverse_coprime {m} {x} {y} v =
    record { only = λ d dx dm. eq-one_of_dvd-one (subst (λ (n : ℕ). d ∣ n) v.one ((dvd-mod_iff d dm).1 (dvd-mul_right_of_dvd d dx y))) }

pub inverse_exists : (m x : ℕ) → 2 ≤ m → Coprime x m → Inverse m x (inverse m x)
inverse_exists m x two c = let e = coprime_inverse x m two c in rw (inverse_is m x e.0 e.1) e.1

pub inverse_none : (m x : ℕ) → ¬ (Coprime x m) → inverse m x ≡ 0
inverse_none m x shared =
    ⊎_elim (λ e. e) (λ some. absurd (shared (inverse_coprime (inverse_found m x some)))) (eq-zero-or-pos (inverse m x))

-- modulo 0 and 1 there is none
pub inverse_small : (m x : ℕ) → m < 2 → inverse m x ≡ 0
inverse_small m x small = omega (arith, inverse_most m x)

-- nor is there one of 0
pub inverse_zero : (m : ℕ) → inverse m 0 ≡ 0
inverse_zero m =
    ⊎_elim
    (λ e. e)
    (λ some. absurd (omega (arith, (inverse_found m 0 some).one, ap (λ (n : ℕ). n % m) (zero-mul (inverse m 0)), zero-mod m)))
    (eq-zero-or-pos (inverse m 0))

-- a common divisor is at most the greatest
common_divisor : (a b d : ℕ) → 1 ≤ a → d ∣ a → d ∣ b → (1 ≤ d) × (d ≤ gcd a b)
unfolding gcd
common_divisor a b d some da db =
    let low : 1 ≤ d = pos_of_dvd_of_pos da some in (
      low,
      greatest_most (λ (e : ℕ). divides e a && divides e b) a d low (le_of_dvd some da)
          (ap₂ ◌&&◌ (eq-eqb (a % d) 0 (mod-eq-zero_of_dvd d da)) (eq-eqb (b % d) 0 (mod-eq-zero_of_dvd d db))),
    )

pub gcd_coprime : (a b : ℕ) → 1 ≤ a → gcd a b ≡ 1 → Coprime a b
gcd_coprime a b some one = record { only = λ d da db. omega (arith, common_divisor a b d some da db) }

pub coprime_gcd : (a b : ℕ) → 1 ≤ a → Coprime a b → gcd a b ≡ 1
unfolding gcd
coprime_gcd a b some c =
    greatest_is (λ (d : ℕ). divides d a && divides d b) a 1 (omega arith) some
    (ap₂ ◌&&◌ (eq-eqb (a % 1) 0 (mod-one a)) (eq-eqb (b % 1) 0 (mod-one b)))
    (λ d above high e. omega (arith, one d (both _ _ e)))
  where
    one : (d : ℕ) → (divides d a ≡ true) × (divides d b ≡ true) → d ≡ 1
    one d h = c.only d (dvd_of_mod-eq-zero d (eqb-true (a % d) 0 h.0)) (dvd_of_mod-eq-zero d (eqb-true (b % d) 0 h.1))

-- an exponent that refusal 3 lets pass
pub record GoodExponent (k r : ℕ) : Type 0 where
  pub low : 1 ≤ k
  pub high : k < r
  pub coprime : Coprime k r

pub good_exponent_lem : (k r : ℕ) → bad_exponent k r ≡ false → GoodExponent k r
unfolding bad_exponent
good_exponent_lem k r e =
    let h : (eqb k 0 || leb r k ≡ false) × (ltb 1 (gcd k r) ≡ false) = neither _ _ e in
    let g : (eqb k 0 ≡ false) × (leb r k ≡ false) = neither _ _ h.0 in
    let some : ¬ (k ≡ 0) = eqb-false k 0 g.0 in
    let low : 1 ≤ k = omega arith in
    let one : gcd k r ≡ 1 = omega (arith, ltb-false 1 (gcd k r) h.1, common_divisor k r 1 low (one-dvd k) (one-dvd r)) in
    record { low = low; high = leb-false r k g.1; coprime = gcd_coprime k r low one }

pub exponent_good : {k r : ℕ} → GoodExponent k r → bad_exponent k r ≡ false
unfolding bad_exponent
exponent_good {k} {r} g =
    rw (ne_eqb k 0 (omega (arith, g.low)), lt-leb r k g.high, le-ltb 1 (gcd k r) (omega (arith, coprime_gcd k r g.low g.coprime)))

pub bad_exponent_lem : (k r : ℕ) → ¬ (GoodExponent k r) → bad_exponent k r ≡ true
bad_exponent_lem k r bad = test_true (bad_exponent k r) (λ e. bad (good_exponent_lem k r e))

module _ (k r : ℕ) (good : bad_exponent k r ≡ false) where
  pub inverse_order : Inverse r k (inverse r k)
  inverse_order = let g = good_exponent_lem k r good in inverse_exists r k (omega (arith, g.low, g.high)) g.coprime

-- a number of which 0 stands for none
pub nonzero_none : (n : ℕ) → n ≡ 0 → None ≡ nonzero n
unfolding nonzero
nonzero_none zero e = refl
nonzero_none (suc n) e = absurd (omega arith)

pub nonzero_some : (n : ℕ) → 1 ≤ n → Some n ≡ nonzero n
unfolding nonzero
nonzero_some zero low = absurd (omega arith)
nonzero_some (suc n) low = refl

pub nonzero_or_zero : (n : ℕ) → unwrap_or (nonzero n) 0 ≡ n
unfolding nonzero
nonzero_or_zero zero = refl
nonzero_or_zero (suc n) = refl

-- ---- the inverse of an exponent

module _ (k r : ℕ) where
  pub exponent_past : r ≤ k → None ≡ exponent_inverse k r
  unfolding exponent_inverse
  exponent_past past = rw (bad_exponent_lem k r (λ g. omega (arith, g.high))) refl

  -- below r what is left of refusal 3 is 0 or a shared factor, where there is no inverse
  pub exponent_below : k < r → nonzero (inverse r k) ≡ exponent_inverse k r
  unfolding exponent_inverse
  exponent_below high =
      by_test (bad_exponent k r)
      (λ bad. sym (nonzero_none _ (none bad)) ∙ rw bad refl)
      (λ good. sym (nonzero_some _ (inverse_order k r good).low) ∙ rw good refl)
    where
      none : bad_exponent k r ≡ true → inverse r k ≡ 0
      none bad =
          ⊎_elim
          (λ zero. rw zero (inverse_zero r))
          (λ low. inverse_none r k (λ coprime. true≢false (sym bad ∙ exponent_good (record { low = low; high = high; coprime = coprime }))))
          (eq-zero-or-pos k)

  -- there is none where refusal 3 applies, and only there
  pub exponent_none : exponent_inverse k r ≡ None → bad_exponent k r ≡ true
  unfolding exponent_inverse
  exponent_none e = by_test (bad_exponent k r) (λ bad. bad) (λ good. absurd (none-some _ (sym (rw good at e))))

  pub exponent_some : {v : ℕ} → exponent_inverse k r ≡ Some v → (bad_exponent k r ≡ false) × (v ≡ inverse r k)
  unfolding exponent_inverse
  exponent_some e =
      by_test (bad_exponent k r)
      (λ bad. absurd (none-some _ (rw bad at e)))
      (λ good. (good, sym (same_Some _ _ (rw good at e))))

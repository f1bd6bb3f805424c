-- What the extended Euclidean algorithm comes to: its last remainder a divides x and m, and where a is 1 its coefficient is the
-- inverse of x, once m is added to a negative one. It always ends, so x and m without a common factor have an inverse.
use mathlib.Core.Path.{◌≡◌, sym, ◌∙◌, ap, subst, subst₂}
use mathlib.Core.Bool.{true, false, true≢false}
use Prim.Native.Nat.{ℕ, zero, suc, ◌+◌, ◌-◌, ◌*◌, ◌%◌, ◌≤◌, ◌<◌, ◌∣◌}
use native.Mathlib.Nat.{add-mul-mod_self_right, dvd_refl, dvd-zero, mod-eq_of_lt, mod-lt, mul-add-mod_self_right, mul-mod_left, mul-zero, zero-mod}
use native.Mathlib.Omega.{arith}
use native.Mathlib.Decide.{ℕ_discrete}
use lib.IntN.{ℤ, pos, neg_ℤ, ◌+ℤ◌}
use lib.Signed.{lt_z}
use borrow.Author.Tests.{ltb-true, le-ltb}
use Rattle.modular.specs.Inverses.{Coprime, Inverse}
use Rattle.modular.proofs.Laws.Euclid.{Bezout, up, down, Kept, kept_start, turn}

-- a number up to m whose product with x leaves 1 is the inverse: neither 0 nor m leaves 1
pub leaves_one_inverse : (m x u : ℕ) → u ≤ m → x * u % m ≡ 1 → Inverse m x u
leaves_one_inverse m x u high one =
    let some : ¬ (u ≡ 0) = λ e. zero_not_one (sym (ap (λ (n : ℕ). x * n % m) e ∙ ap (λ (n : ℕ). n % m) (mul-zero x) ∙ zero-mod m) ∙ one) in
    let less : ¬ (u ≡ m) = λ e. zero_not_one (sym (ap (λ (n : ℕ). x * n % m) e ∙ mul-mod_left x m) ∙ one) in
    record { low = omega arith; high = omega arith; one = one }
  where
    zero_not_one : ¬ (◌≡◌ {A = ℕ} 0 1)
    zero_not_one e = omega arith

-- the last coefficient, and how it gives the inverse
pub data Last (x m : ℕ) (s : ℤ) : Type 0 where
  plus : (u : ℕ) → s ≡ pos u → Inverse m x u → Last x m s
  minus : (u : ℕ) → s ≡ neg_ℤ (pos u) → Inverse m x (m - u) → Last x m s

one_left : (m i n : ℕ) → 2 ≤ m → n ≡ 1 + i * m → n % m ≡ 1
one_left m i n two e = ap (λ (y : ℕ). y % m) e ∙ add-mul-mod_self_right 1 i m ∙ mod-eq_of_lt two

lifted : (x m u i : ℕ) → 2 ≤ m → u ≤ m → u * x + 1 ≡ i * m → x * (m - u) % m ≡ 1
lifted x m u i two high e =
    sym (mul-add-mod_self_right i m (x * (m - u)))
    ∙ one_left m x (i * m + x * (m - u)) two (with_rest (m - u) (omega arith))
  where
    with_rest : (w : ℕ) → w + u ≡ m → i * m + x * w ≡ 1 + x * m
    with_rest w whole = omega (arith, ap (λ (n : ℕ). x * n) whole)

pub last : (x m a b : ℕ) (s t : ℤ) → 2 ≤ m → a ≡ 1 → b ≡ 0 → Kept x m a b s t → Last x m s
last x m a b s t two ea eb k = go (subst₂ (λ (c d : ℕ). Bezout x m c d s t) ea eb k.bezout)
  where
    go : Bezout x m 1 0 s t → Last x m s
    go (up u v i j es et eu ev z) =
        plus u es (leaves_one_inverse m x u (omega (arith, z.sum, z.order)) (one_left m i (x * u) two (omega arith)))
    go (down u v i j es et eu ev z) =
        let high : u ≤ m = omega (arith, z.sum, z.order) in
        minus u es (leaves_one_inverse m x (m - u) (omega arith) (lifted x m u i two high eu))

-- the last remainder divides both, so it is 1 where they share no other factor
pub coprime_last : (x m a b : ℕ) (s t : ℤ) → b ≡ 0 → Kept x m a b s t → Coprime x m → a ≡ 1
coprime_last x m a b s t eb k c =
    let d : (a ∣ x) × (a ∣ m) = k.divisor a (dvd_refl a) (subst (λ (n : ℕ). a ∣ n) (sym eb) (dvd-zero a)) in
    c.only a d.0 d.1

-- z is the inverse
pub record Whole (x m : ℕ) (z : ℤ) : Type 0 where
  pub value : ℕ
  pub is : z ≡ pos value
  pub inverse : Inverse m x value

pub below_zero : (x m : ℕ) (s : ℤ) → Last x m s → lt_z s (pos 0) ≡ true → Whole x m (s +ℤ pos m)
below_zero x m s (plus u es v) t =
    absurd (let h : u < 0 = ltb-true u 0 (subst (λ (z : ℤ). lt_z z (pos 0) ≡ true) es t) in omega arith)
below_zero x m s (minus u es v) t = record { value = m - u; is = ap (λ (z : ℤ). z +ℤ pos m) es ∙ sum u v.low v.high; inverse = v }
  where
    sum : (u : ℕ) → 1 ≤ m - u → m - u < m → neg_ℤ (pos u) +ℤ pos m ≡ pos (m - u)
    sum zero low high = absurd (omega arith)
    sum (suc n) low high = rw (le-ltb m (suc n) (omega arith))

pub not_below : (x m : ℕ) (s : ℤ) → Last x m s → lt_z s (pos 0) ≡ false → Whole x m s
not_below x m s (plus u es v) t = record { value = u; is = es; inverse = v }
not_below x m s (minus u es v) t = absurd (positive u v.high (subst (λ (z : ℤ). lt_z z (pos 0) ≡ false) es t))
  where
    positive : (u : ℕ) → m - u < m → ¬ (lt_z (neg_ℤ (pos u)) (pos 0) ≡ false)
    positive zero high e = omega arith
    positive (suc n) high e = true≢false e

-- the algorithm on paper: as many turns as b allows
run : (fuel x m a b : ℕ) (s t : ℤ) → b < fuel → 2 ≤ m → Coprime x m → Kept x m a b s t → (z : ℤ) × Last x m z
run zero x m a b s t enough two c k = absurd (omega arith)
run (suc fuel) x m a b s t enough two c k =
    elim (ℕ_discrete b 0) [
      | yes e ↦ (s, last x m a b s t two (coprime_last x m a b s t e k c) e k)
      | no e ↦
          let some : 0 < b = omega arith in
          run fuel x m b (a % b) t _ (omega (arith, mod-lt a some)) two c (turn x m a b s t some k).next
    ]

pub coprime_inverse : (x m : ℕ) → 2 ≤ m → Coprime x m → (y : ℕ) × Inverse m x y
coprime_inverse x m two c =
    go (run (suc (x % m)) x m m (x % m) (pos 0) (pos 1) (omega arith) two c (kept_start x m (omega arith)))
  where
    go : (z : ℤ) × Last x m z → (y : ℕ) × Inverse m x y
    go (z, plus u es v) = (u, v)
    go (z, minus u es v) = (m - u, v)

-- A quotient is a product: where d divides n and d x leaves 1 modulo 2^16, n x = (n / d) d x leaves n / d. So d divides a number n
-- below 2^16 just where d times what n x leaves is n, and not n and some multiple of 2^16 besides.
-- A larger p is brought down to such a number: with m for what its lower half times x leaves, p and d m differ by a multiple of
-- 2^16, to which d is coprime.
use mathlib.Core.Path.{◌≡◌, sym, ◌∙◌, ap, subst}
use Prim.Native.Nat.{ℕ, ◌+◌, ◌*◌, ◌-◌, ◌/◌, ◌%◌, ◌≤◌, ◌<◌, ◌∣◌}
use native.Mathlib.Nat.{add-mul-mod_self_right, div-eq_of_lt, div-le_of_le-mul, div-le_self, div-mul_cancel, dvd-add, dvd-add_iff_left, dvd-mul_left, dvd-mul_left_of_dvd, dvd-mul_right, dvd-mul_right_of_dvd, dvd_of_mod-eq-zero, dvd_trans, le_of_lt, lt_of_le_of_lt, mod-add-div', mod-eq_of_lt, mod-eq-zero_of_dvd, mod-lt, mul-le-mul_left, mul-le-mul_right, mul-lt-mul_of_pos_right}
use native.Mathlib.Omega.{arith}
use native.Mathlib.Decide.{dec_le}
use Rattle.divisors.specs.Inner.Inverted.{half_word, sum_limit, quotient_by, carry_of, HalfWordInverse, ZeroWhereDivided}

-- the product of two numbers below n
pub product_below : (n : ℕ) {x y : ℕ} → x < n → y < n → x * y < n * n
product_below n {x} {y} hx hy = lt_of_le_of_lt (mul-le-mul_left x (le_of_lt hy)) (mul-lt-mul_of_pos_right hx (omega arith))

-- what m doesn't divide, no multiple of m divides
pub no_multiple : (n m e : ℕ) → ¬ (n % m ≡ 0) → e % m ≡ 0 → ¬ (e ∣ n)
no_multiple n m e other multiple h = other (mod-eq-zero_of_dvd m (dvd_trans m (dvd_of_mod-eq-zero m multiple) h))

-- the other factor of p
pub cofactor_two : (p d q : ℕ) → d < p → q * d ≡ p → 2 ≤ q
cofactor_two p d q less e =
    elim (dec_le 2 q) [ yes l ↦ l | no l ↦ absurd (omega (arith, mul-le-mul_right {m = q} {n = 1} d (omega arith))) ]

-- m d is below 2^16 d
pub carry_at_most : (n x d : ℕ) → carry_of n d x ≤ d
carry_at_most n x d = div-le_of_le-mul half_word (mul-le-mul_right {m = quotient_by x n} {n = half_word} d (le_of_lt (mod-lt (n * x) (omega arith))))

module _ (d x : ℕ) (one : d * x % half_word ≡ 1) where
  abbrev turns : ℕ
  turns = d * x / half_word

  product : d * x ≡ 1 + turns * half_word
  product = omega (arith, mod-add-div' (d * x) half_word)

  -- where d divides n
  quotient_is : (n : ℕ) → n < half_word → d ∣ n → quotient_by x n ≡ n / d
  quotient_is n small h =
      let q : ℕ = n / d in
      let whole : q * d ≡ n = div-mul_cancel d h in
      let split : n * x ≡ q + q * turns * half_word =
      omega (arith, ap (λ (k : ℕ). k * x) whole, ap (λ (k : ℕ). q * k) product) in
      ap (λ (k : ℕ). k % half_word) split ∙ add-mul-mod_self_right q (q * turns) half_word ∙ mod-eq_of_lt (lt_of_le_of_lt (div-le_self n d) small)

  -- d times the product leaves n
  back : (n : ℕ) → n < half_word → quotient_by x n * d % half_word ≡ n
  back n small =
      let m : ℕ = quotient_by x n in
      let c : ℕ = n * x / half_word in
      let split : n * x ≡ m + c * half_word = sym (mod-add-div' (n * x) half_word) in
      let both : m * d + c * d * half_word ≡ n + n * turns * half_word =
      omega (arith, ap (λ (k : ℕ). k * d) split, ap (λ (k : ℕ). n * k) product) in
      sym (add-mul-mod_self_right (m * d) (c * d) half_word)
      ∙ ap (λ (k : ℕ). k % half_word) both
      ∙ add-mul-mod_self_right n (n * turns) half_word
      ∙ mod-eq_of_lt small

  -- by its halves
  halves : (n : ℕ) → n < half_word → quotient_by x n * d ≡ n + carry_of n d x * half_word
  halves n small = omega (arith, mod-add-div' (quotient_by x n * d) half_word, back n small)

  -- below 2^16
  small_divided : (n : ℕ) → n < half_word → ZeroWhereDivided n d (carry_of n d x)
  small_divided n small =
      record {
        divides = λ z. subst (λ (k : ℕ). d ∣ k) (exact z) (dvd-mul_left d (quotient_by x n));
        zero = λ h. div-eq_of_lt (subst (λ (k : ℕ). k < half_word) (sym (ap (λ (k : ℕ). k * d) (quotient_is n small h) ∙ div-mul_cancel d h)) small);
      }
    where
      exact : carry_of n d x ≡ 0 → quotient_by x n * d ≡ n
      exact z = halves n small ∙ rw z (omega arith)

  -- d is coprime to 2^16
  coprime : (n : ℕ) → d ∣ n * half_word → d ∣ n
  coprime n h =
      let split : n * x * d ≡ n + turns * (n * half_word) = omega (arith, ap (λ (k : ℕ). n * k) product) in
      (dvd-add_iff_left d (dvd-mul_left_of_dvd d h turns)).1 (subst (λ (k : ℕ). d ∣ k) split (dvd-mul_left d (n * x)))

  -- p, and what is left of it times 2^16
  module _ (p rest m : ℕ) (even : p + d * half_word ≡ rest * half_word + m * d) where
    to_rest : d ∣ p → d ∣ rest
    to_rest h =
        coprime rest
        ((dvd-add_iff_left d (dvd-mul_left d m)).1
        (subst (λ (k : ℕ). d ∣ k) even (dvd-add d h (dvd-mul_right d half_word))))

    from_rest : d ∣ rest → d ∣ p
    from_rest h =
        (dvd-add_iff_left d (dvd-mul_right d half_word)).1
        (subst (λ (k : ℕ). d ∣ k) (sym even) (dvd-add d (dvd-mul_right_of_dvd d h half_word) (dvd-mul_left d m)))

-- what is left of p
abbrev pub rest_of : ℕ → ℕ → ℕ → ℕ
rest_of p d x = p / half_word + d - carry_of (p % half_word) d x

pub large_divided : (p d x : ℕ) → p < sum_limit → HalfWordInverse d x → ZeroWhereDivided p d (carry_of (rest_of p d x) d x)
large_divided p d x fits i =
    let rest : ℕ = rest_of p d x in
    let m : ℕ = quotient_by x (p % half_word) in
    let low : carry_of (p % half_word) d x ≤ d = carry_at_most (p % half_word) x d in
    let even : p + d * half_word ≡ rest * half_word + m * d =
    omega (arith, halves d x i.one (p % half_word) (mod-lt p (omega arith)), mod-add-div' p half_word) in
    let small : ZeroWhereDivided rest d (carry_of rest d x) = small_divided d x i.one rest (omega (arith, i.high)) in
    record {
      divides = λ z. from_rest d x i.one p rest m even (small.divides z);
      zero = λ h. small.zero (to_rest d x i.one p rest m even h);
    }

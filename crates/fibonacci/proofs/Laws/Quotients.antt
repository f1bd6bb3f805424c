-- G by a division. Let a and b be neighbouring Fibonacci numbers with a / b above 1 / phi, c the Lucas number a + (a + b), and w = v + 1.
-- The quotient of w a by b is G(v) or one more, and its remainder t tells which: b b (u u + u w - w w) = w w - t c w + t t, which is above 0
-- exactly where t c is at most w.
use mathlib.Core.Path.{◌≡◌, ap}
use Prim.Native.Nat.{ℕ, zero, suc, ◌+◌, ◌*◌, ◌-◌, ◌≤◌, ◌<◌}
use native.Mathlib.Nat.{mul-le-mul, mul-le-mul_left, mul-le-mul_right, lt_of_mul-lt-mul_left}
use native.Mathlib.Numerals.{sub-one}
use native.Mathlib.Omega.{arith}
use Rattle.fibonacci.proofs.Laws.Hofstadter.{Pair}

-- t c w - w w is the product of w and t c - w, which is no less than their sum less one
product_above : (c t w : ℕ) → 0 < t → t + 2 ≤ c → 0 < w → w < t * c → w * w + t * t < t * c * w
product_above c t w some small positive above =
    let d : ℕ = t * c - suc w in
    let e : t * c ≡ suc w + d = omega arith in
    omega (arith, ap (λ (x : ℕ). x * w) e, mul-le-mul_left d positive, mul-le-mul_left t small)

module _ (a b c : ℕ) (cassini : b * b + 1 ≡ b * a + a * a) (lucas_is : c ≡ a + (a + b)) (near : b < 2 * a) where
  identity : (u t w : ℕ) → u * b + t ≡ w * a → b * b * (u * u + u * w) + t * c * w ≡ b * b * (w * w) + w * w + t * t
  identity u t w e =
      omega (
        arith,
        ap (λ (x : ℕ). u * b * x) e,
        ap (λ (x : ℕ). w * a * x) e,
        ap (λ (x : ℕ). w * b * x) e,
        ap (λ (x : ℕ). t * x) e,
        ap (λ (x : ℕ). t * w * x) lucas_is,
        ap (λ (x : ℕ). w * w * x) cassini,
      )

  below : (u t w : ℕ) → u * b + t ≡ w * a → 0 < t → t + 2 ≤ c → 0 < w → w < t * c → u * u + u * w < w * w
  below u t w e some small positive above =
      lt_of_mul-lt-mul_left (b * b) (omega (arith, identity u t w e, product_above c t w some small positive above))

  above_by : (u t w : ℕ) → u * b + t ≡ w * a → 0 < w → t * c ≤ w → w * w < u * u + u * w
  above_by u zero w e positive short =
      lt_of_mul-lt-mul_left (b * b) (omega (arith, identity u 0 w e, mul-le-mul positive positive))
  above_by u (suc t) w e positive short =
      lt_of_mul-lt-mul_left (b * b) (omega (arith, identity u (suc t) w e, mul-le-mul_right w short))

  next_above : (u t w : ℕ) → u * b + t ≡ w * a → t < b → 0 < w → w * w < suc u * suc u + suc u * w
  next_above u t w e less positive =
      let h : w * a ≤ suc u * b = omega arith in
      lt_of_mul-lt-mul_left (b * b) (omega (arith, mul-le-mul h h, mul-le-mul_right (w * b) h, ap (λ (x : ℕ). w * w * x) cassini, mul-le-mul positive positive))

  -- the quotient is G(v)
  pub quotient_is : (u t v : ℕ) → u * b + t ≡ suc v * a → t < b → suc v < t * c → Pair u v
  quotient_is u zero v e less above = absurd (omega arith)
  quotient_is u (suc t) v e less above = record {
    low = below u (suc t) (suc v) e (omega arith) (omega arith) (omega arith) above;
    high = next_above u (suc t) (suc v) e less (omega arith);
  }

  -- it is one more
  quotient_some : (u t v : ℕ) → u * b + t ≡ suc v * a → t * c ≤ suc v → 0 < u
  quotient_some zero t v e short = absurd (omega (arith, above_by 0 t (suc v) e (omega arith) short))
  quotient_some (suc u) t v e short = omega arith

  pub quotient_less : (u t v : ℕ) → u * b + t ≡ suc v * a → t < b → suc v < b * c → t * c ≤ suc v → Pair (u - 1) v
  quotient_less zero t v e less wide short = absurd (omega (arith, quotient_some 0 t v e short))
  quotient_less (suc u) t v e less wide short =
      simp sub-one
      (record {
        low = below u (t + b) (suc v) (omega arith) (omega arith) (omega arith) (omega arith) (omega arith);
        high = above_by (suc u) t (suc v) e (omega arith) short;
      })

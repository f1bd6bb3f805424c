-- What repeated squaring keeps: the result times the square to the power of what is left of the exponent is the power. A turn takes s ^ n
-- as (s * s) ^ (n / 2), times s where n is odd.
use Rattle.std.specs.Prelude.{◌≡◌, ℕ, suc, ◌*◌, ◌/◌, ◌%◌, ◌^◌, ◌<◌}
use mathlib.Core.Path.{sym, ◌∙◌, ap}
use native.Mathlib.Nat.{mul_assoc, mul-one, one-mul, pow-suc, pow-succ', pow-zero}
use native.Mathlib.Omega.{arith}
use Rattle.modular.proofs.Laws.Powers.{pow_mul, pow_one}
use Rattle.montgomery.specs.Inner.Forms.{word}
use Rattle.montgomery.specs.Inner.Squaring.{Carries, Power}

-- the numbers that result and square stand for
pub record Squared (base exponent result square rest : ℕ) : Type 0 where
  pub power : result * square ^ rest ≡ base ^ exponent

square_pow : (s h : ℕ) → (s * s) ^ h ≡ s ^ (2 * h)
square_pow s h =
    let two : s * s ≡ s ^ 2 = sym (pow-suc s 1 ∙ ap (λ (x : ℕ). x * s) (pow_one s)) in
    ap (λ (x : ℕ). x ^ h) two ∙ pow_mul s 2 h

module _ {base exponent r s n : ℕ} (k : Squared base exponent r s n) where
  squared_even : ¬ (n % 2 ≡ 1) → Squared base exponent r (s * s) (n / 2)
  squared_even even = let whole : 2 * (n / 2) ≡ n = omega arith in record { power = rw (square_pow s (n / 2), whole) k.power }

  squared_odd : n % 2 ≡ 1 → Squared base exponent (r * s) (s * s) (n / 2)
  squared_odd odd =
      let whole : suc (2 * (n / 2)) ≡ n = omega arith in
      record {
        power =
            ap (λ (x : ℕ). r * s * x) (square_pow s (n / 2))
            ∙ mul_assoc r s (s ^ (2 * (n / 2)))
            ∙ ap (λ (x : ℕ). r * x) (sym (pow-succ' s (2 * (n / 2))))
            ∙ ap (λ (x : ℕ). r * s ^ x) whole
            ∙ k.power;
      }

-- result and square stand for numbers for which repeated squaring keeps the power
pub record Stands (product : ℕ → ℕ → ℕ → Type 0) (one base exponent result square rest : ℕ) : Type 0 where
  pub of : (image : ℕ → ℕ) → Carries product image → (b : ℕ) → one ≡ image 1 → base ≡ image b
      → (u : ℕ) × (s : ℕ) × (result ≡ image u) × (square ≡ image s) × Squared b exponent u s rest

module _ {product : ℕ → ℕ → ℕ → Type 0} {one base exponent : ℕ} where
  pub stands_start : Stands product one base exponent one base exponent
  stands_start = record { of = λ image carries b e1 eb. (1, b, e1, eb, record { power = one-mul (b ^ exponent) }) }

  module _ {r s n : ℕ} (k : Stands product one base exponent r s n) (s' : ℕ) (small_s : s < word) (square : product s s s') where
    pub stands_even : ¬ (n % 2 ≡ 1) → Stands product one base exponent r s' (n / 2)
    stands_even even =
        record {
          of = λ image carries b e1 eb.
              let at = k.of image carries b e1 eb in (
                at.0,
                at.1 * at.1,
                at.2,
                carries.times at.1 at.1 s' (rw (← at.3) small_s) (rw (← at.3) small_s) (rw (← at.3) square),
                squared_even at.4 even,
              );
        }

    pub stands_odd : (r' : ℕ) → r < word → product r s r' → n % 2 ≡ 1 → Stands product one base exponent r' s' (n / 2)
    stands_odd r' small_r times last =
        record {
          of = λ image carries b e1 eb.
              let at = k.of image carries b e1 eb in (
                at.0 * at.1,
                at.1 * at.1,
                carries.times at.0 at.1 r' (rw (← at.2) small_r) (rw (← at.3) small_s) (rw (← at.2, ← at.3) times),
                carries.times at.1 at.1 s' (rw (← at.3) small_s) (rw (← at.3) small_s) (rw (← at.3) square),
                squared_odd at.4 last,
              );
        }

  pub stands_end : {r s n : ℕ} → Stands product one base exponent r s n → n ≡ 0 → Power product one base exponent r
  stands_end {r} {s} k done =
      record {
        of = λ image carries b e1 eb.
            let at = k.of image carries b e1 eb in
            let whole : at.0 ≡ b ^ exponent = sym (ap (λ (x : ℕ). at.0 * at.1 ^ x) done ∙ ap (λ (x : ℕ). at.0 * x) (pow-zero at.1) ∙ mul-one at.0) ∙ at.4.power in
            at.2 ∙ ap image whole;
      }

-- What step counts and word widths stand on: for k below r the form of k F_(ℓ'+1), the multiple of Lemma 1, has places up
-- to 2h, by Cassini's identity with F_(2h+1) and F_(2h+2) as products; and at most every other place of a form is set.
use mathlib.Core.Path.{◌≡◌, refl, sym, ap, ◌∙◌}
use mathlib.Core.Bool.{Bool, true, false, cond}
use Prim.Native.Nat.{ℕ, suc, ◌+◌, ◌*◌, ◌≤◌, ◌<◌, ◌^◌}
use native.Mathlib.Nat.{add-suc, mul-le-mul, mul-le-mul_right}
use native.Mathlib.Omega.{arith}
use lib.ListN.{length}
use Rattle.fibonacci.specs.Fibonacci.{fib, lucas, odd}
use Rattle.fibonacci.specs.Forms.{fibsum_from, zeckendorf, places}
use Rattle.fibonacci.specs.Hofstadter.{G}
use Rattle.fibonacci.specs.Height.{height, odd_height}
use Rattle.fibonacci.proofs.Laws.Fibonacci.{fib_next, fib_positive, fib_grows, fib_monotone, fib_sum, lucas_fib, lucas_positive, cassini_odd, cassini_even}
use Rattle.fibonacci.proofs.Laws.Hofstadter.{G-multiple}
use Rattle.fibonacci.proofs.Laws.Forms.{G-form, sparse_count}
use Rattle.fibonacci.proofs.Laws.Zeckendorf.{zeckendorf_form, zeckendorf_sum, zeckendorf_length}
use Rattle.fibonacci.proofs.Laws.Height.{odd_reaches, even_reaches, height_least, zeckendorf_height, height_28, odd_height_is, odd_height_odd, odd_height_reaches, odd_height_le}

-- ---- the multiple of F_(ℓ'+1)

multiple_odd : (h k : ℕ) → odd h ≡ true → k < lucas h → k * fib (suc h) < fib (suc (h + h))
multiple_odd h k o l =
    rw (fib_sum h h)
    (omega (arith, cassini_odd h o, mul-le-mul_right (fib (suc h)) l, ap (λ (x : ℕ). x * fib (suc h)) (lucas_fib h), fib_positive h))

multiple_even : (h k : ℕ) → odd h ≡ false → k + 1 < lucas h → k * fib (suc (suc h)) < fib (suc (suc (h + h)))
multiple_even h k o l =
    rw (← add-suc, fib_sum h (suc h), fib_next)
    (omega (arith, cassini_even h o, mul-le-mul_right (fib (suc h) + fib h) l, ap (λ (x : ℕ). x * (fib (suc h) + fib h)) (lucas_fib h), fib_positive h))

multiple_below : (r k : ℕ) → k < r → k * fib (suc (odd_height r)) < fib (suc (suc (height r + height r)))
multiple_below r k l = rw (odd_height_is r) (go (odd (height r)) refl)
  where
    go : (t : Bool) → odd (height r) ≡ t → k * fib (suc (cond t (height r) (suc (height r)))) < fib (suc (suc (height r + height r)))
    go true o =
        omega (arith, multiple_odd (height r) k o (omega (arith, odd_reaches r (height r) o (height_least r).passes)), fib_grows (suc (height r + height r)))
    go false o =
        multiple_even (height r) k o (omega (arith, even_reaches r (height r) o (lucas_positive (height r)) (height_least r).passes))

pub multiple_length : (r k : ℕ) → k < r → length (zeckendorf (k * fib (suc (odd_height r)))) ≤ height r + height r
multiple_length r k l = zeckendorf_length (height r + height r) (k * fib (suc (odd_height r))) (multiple_below r k l)

-- for the moduli of format 1
pub multiple_64 : (r k : ℕ) → r < 2 ^ 28 → k < r → k * fib (suc (odd_height r)) < 2 ^ 62
unfolding fib
multiple_64 r k h l =
    let m : k ≤ 2 ^ 28 = omega arith in
    omega (arith, mul-le-mul m (fib_monotone {m = suc (odd_height r)} {n = 43} (omega (arith, odd_height_le r, height_28 r h))))

-- its form with each place moved down by one
pub multiple_shift : (r k : ℕ) → k < r → fibsum_from 0 (zeckendorf (k * fib (suc (odd_height r)))) ≡ k * fib (odd_height r)
multiple_shift r k l =
    let v : ℕ = k * fib (suc (odd_height r)) in
    let b : k ≤ lucas (odd_height r) = omega (arith, odd_reaches r (odd_height r) (odd_height_odd r) (odd_height_reaches r)) in
    sym (G-form (zeckendorf v)) ∙ ap G (zeckendorf_sum v) ∙ G-multiple (odd_height r) k (odd_height_odd r) b

-- ---- how many places are set

pub ones_count : (r n : ℕ) → n < r → 2 * length (places (zeckendorf n)) ≤ height r + 1
ones_count r n l = omega (arith, sparse_count 1 (zeckendorf n) (zeckendorf_form n).sparse, zeckendorf_height r n l)

pub multiple_count : (r k : ℕ) → k < r → length (places (zeckendorf (k * fib (suc (odd_height r))))) ≤ height r
multiple_count r k l =
    let v : ℕ = k * fib (suc (odd_height r)) in
    omega (arith, sparse_count 1 (zeckendorf v) (zeckendorf_form v).sparse, multiple_length r k l)

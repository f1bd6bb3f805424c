-- A place with its weight and the weight below. A number of k bits is below the weight of place (36 k + 17) / 25 + 1, as antt computes: 36 / 25
-- is about the logarithm of 2 to the base phi.
use mathlib.Core.Path.{◌≡◌, refl}
use mathlib.Core.Bool.{Bool, true, ◌&&◌}
use Prim.Native.Nat.{ℕ, zero, suc, ◌+◌, ◌*◌, ◌-◌, ◌/◌, ◌≤◌, ◌<◌, ◌^◌}
use native.Mathlib.Nat.{lt_of_lt_of_le}
use native.Mathlib.Numerals.{add-one, sub-one}
use native.Mathlib.Omega.{arith}
use native.Mathlib.Decide.{ℕ_discrete}
use lib.Dec.{leb}
use lib.Count.{count_leading_zeros, leading_length}
use borrow.Author.Tests.{leb-true}
use Rattle.refusal.proofs.Laws.Tests.{both}
use Rattle.fibonacci.specs.declared.Weight.{Weight}
use Rattle.fibonacci.specs.Fibonacci.{fib}
use Rattle.fibonacci.specs.Services.{fibonacci_or_zero}
use Rattle.fibonacci.specs.Inner.Weights.{IsWeight}
use Rattle.fibonacci.proofs.Laws.Fibonacci.{fib_next, fib_grows, fibonacci_below_94}

-- the place for a number of k bits
abbrev pub place_for : ℕ → ℕ
place_for k = (36 * k + 17) / 25

-- it is high enough for each k below n
unfoldable high_below : ℕ → Bool
high_below zero = true
high_below (suc k) = leb (2 ^ k) (fib (suc (suc (place_for k)))) && high_below k

high_below_lem : (n k : ℕ) → high_below n ≡ true → k < n → 2 ^ k ≤ fib (suc (suc (place_for k)))
unfolding high_below
high_below_lem zero k e h = absurd (omega arith)
high_below_lem (suc n) k e h =
    let tests = both (leb (2 ^ n) (fib (suc (suc (place_for n))))) (high_below n) e in
    elim (ℕ_discrete k n) [
      | yes same ↦ rw same (leb-true _ _ tests.0)
      | no other ↦ high_below_lem n k tests.1 (omega arith)
    ]

high_64 : high_below 65 ≡ true
unfolding high_below fib
high_64 = refl

pub place_for_lem : (n : ℕ) → n < 2 ^ 64 → n < fib (suc (suc (place_for (64 - count_leading_zeros 64 n))))
place_for_lem n h =
    let l = leading_length 64 n h in
    let bits : 64 - count_leading_zeros 64 n ≡ l.0 = omega (arith, l.1) in
    rw bits (lt_of_lt_of_le l.2 (high_below_lem 65 l.0 high_64 (omega (arith, l.1))))

pub weighs_at : {place weight below : ℕ} → place ≤ 92 → weight ≡ fibonacci_or_zero (place + 1) → below ≡ fibonacci_or_zero place
    → IsWeight (record { place = place; weight = weight; below = below })
weighs_at {place} high w b = record { weight_is = rw add-one at (fibonacci_below_94 w (omega arith)); below_is = fibonacci_below_94 b (omega arith) }

pub below_at_most : {w : Weight} → IsWeight w → w.below ≤ w.weight
below_at_most {w} h = omega (arith, h.weight_is, h.below_is, fib_grows w.place)

lower_from : (i weight below : ℕ) → weight ≡ fib (suc i) → below ≡ fib i → 0 < i → IsWeight (record { place = i - 1; weight = below; below = weight - below })
lower_from zero weight below w b p = absurd (omega arith)
lower_from (suc i) weight below w b p =
    simp sub-one (record { weight_is = b; below_is = omega (arith, w, b, fib_next i) })

pub weighs_lower : {w : Weight} → IsWeight w → 0 < w.place → IsWeight (record { place = w.place - 1; weight = w.below; below = w.weight - w.below })
weighs_lower {w} h p = lower_from w.place w.weight w.below h.weight_is h.below_is p

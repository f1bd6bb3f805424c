-- Laws of Fibonacci and Lucas numbers: the recurrence, Cassini's identity, growth. Each by induction in steps of one or two.
use mathlib.Core.Path.{◌≡◌, refl, ◌∙◌}
use mathlib.Core.Bool.{true, false, not}
use Prim.Native.Nat.{ℕ, zero, suc, ◌+◌, ◌*◌, ◌-◌, ◌%◌, ◌≤◌, ◌<◌, ◌^◌}
use native.Mathlib.Nat.{add-zero, zero-add, add-suc, suc-add, le_refl, le_trans, add-sub_of_le}
use native.Mathlib.Omega.{arith}
use borrow.Author.Tests.{le-leb}
use Rattle.fibonacci.specs.Fibonacci.{fib, lucas, odd}
use Rattle.fibonacci.specs.Services.{fibonacci_or_zero}

pub fib_zero : fib 0 ≡ 0
unfolding fib
fib_zero = refl

pub fib_one : fib 1 ≡ 1
unfolding fib
fib_one = refl

pub fib_next : (n : ℕ) → fib (suc (suc n)) ≡ fib (suc n) + fib n
unfolding fib
fib_next n = refl

pub lucas_next : (n : ℕ) → lucas (suc (suc n)) ≡ lucas (suc n) + lucas n
unfolding lucas
lucas_next n = refl

pub fib_positive : (n : ℕ) → 0 < fib (suc n)
unfolding fib
fib_positive zero = omega arith
fib_positive (suc n) = omega (arith, fib_positive n)

pub fib_grows : (n : ℕ) → fib n ≤ fib (suc n)
unfolding fib
fib_grows zero = omega arith
fib_grows (suc n) = omega arith

fib_grows_by : (m d : ℕ) → fib m ≤ fib (m + d)
fib_grows_by m zero = simp add-zero (le_refl (fib m))
fib_grows_by m (suc d) = simp add-suc (le_trans (fib_grows_by m d) (fib_grows (m + d)))

pub fib_monotone : {m n : ℕ} → m ≤ n → fib m ≤ fib n
fib_monotone {m} {n} h = rw (add-sub_of_le h) at (fib_grows_by m (n - m))

pub fib_at_most_double : (n : ℕ) → 0 < n → fib (suc n) ≤ 2 * fib n
unfolding fib
fib_at_most_double zero h = omega arith
fib_at_most_double (suc n) h = omega (arith, fib_grows n)

-- n < F_(n+2): place n is high enough for n
pub fib_exceeds : (n : ℕ) → n < fib (suc (suc n))
unfolding fib
fib_exceeds zero = omega arith
fib_exceeds (suc n) = omega (arith, fib_exceeds n, fib_positive n)

-- F_(m+n+1) = F_(m+1) F_(n+1) + F_m F_n
pub fib_sum : (m n : ℕ) → fib (suc (m + n)) ≡ fib (suc m) * fib (suc n) + fib m * fib n
fib_sum zero n = rw (zero-add, fib_one, fib_zero) (omega arith)
fib_sum (suc m) n = rw (suc-add, ← add-suc, fib_sum m (suc n), fib_next m, fib_next n) (omega arith)

-- 2 F_(n+1) = F_n + L_n
pub lucas_fib : (n : ℕ) → 2 * fib (suc n) ≡ fib n + lucas n
unfolding fib lucas
lucas_fib zero = refl
lucas_fib (suc zero) = refl
lucas_fib (suc (suc n)) = omega (arith, lucas_fib n, lucas_fib (suc n))

-- Cassini's identity, as a fact on natural numbers for either parity
pub cassini_odd : (n : ℕ) → odd n ≡ true → fib (suc n) * fib (suc n) + 1 ≡ fib (suc n) * fib n + fib n * fib n
unfolding fib
cassini_odd zero o = let z : ◌≡◌ {A = ℕ} 0 1 = cc in absurd (omega arith)
cassini_odd (suc zero) o = refl
cassini_odd (suc (suc n)) o = omega (arith, cassini_odd n o)

pub cassini_even : (n : ℕ) → odd n ≡ false → fib (suc n) * fib (suc n) ≡ fib (suc n) * fib n + fib n * fib n + 1
unfolding fib
cassini_even zero o = refl
cassini_even (suc zero) o = let z : ◌≡◌ {A = ℕ} 0 1 = cc in absurd (omega arith)
cassini_even (suc (suc n)) o = omega (arith, cassini_even n o)

pub lucas_grows : (n : ℕ) → 0 < n → lucas n ≤ lucas (suc n)
lucas_grows zero h = absurd (omega arith)
lucas_grows (suc n) h = omega (arith, lucas_next n)

pub lucas_exceeds : (n : ℕ) → n ≤ lucas n
unfolding lucas
lucas_exceeds zero = omega arith
lucas_exceeds (suc zero) = omega arith
lucas_exceeds (suc (suc zero)) = omega arith
lucas_exceeds (suc (suc (suc n))) = omega (arith, lucas_exceeds (suc (suc n)), lucas_exceeds (suc n))

pub lucas_positive : (n : ℕ) → 0 < lucas n
unfolding lucas
lucas_positive zero = omega arith
lucas_positive (suc n) = omega (arith, lucas_exceeds (suc n))

-- L_h ≤ F_(h+2)
pub lucas_below_fib : (h : ℕ) → 0 < h → lucas h ≤ fib (suc (suc h))
lucas_below_fib zero p = absurd (omega arith)
lucas_below_fib (suc h) p = omega (arith, lucas_fib (suc h), fib_next (suc h), fib_next h, fib_grows h)

pub odd_next : (n : ℕ) → odd (suc n) ≡ not (odd n)
odd_next zero = refl
odd_next (suc zero) = refl
odd_next (suc (suc n)) = odd_next n

-- the parity that the code computes
pub odd_one : (n : ℕ) → odd n ≡ true → n % 2 ≡ 1
odd_one zero o = let z : ◌≡◌ {A = ℕ} 0 1 = cc in absurd (omega arith)
odd_one (suc zero) o = refl
odd_one (suc (suc n)) o = omega (arith, odd_one n o)

pub odd_zero : (n : ℕ) → odd n ≡ false → n % 2 ≡ 0
odd_zero zero o = refl
odd_zero (suc zero) o = let z : ◌≡◌ {A = ℕ} 0 1 = cc in absurd (omega arith)
odd_zero (suc (suc n)) o = omega (arith, odd_zero n o)

-- every 64-bit number is below the weight of place 93
pub fib_64 : (n : ℕ) → n < 2 ^ 64 → n < fib 94
unfolding fib
fib_64 n h = omega arith

-- and F_0 to F_93 are 64-bit numbers
pub fib_fits : (i : ℕ) → i ≤ 93 → fib i < 2 ^ 64
unfolding fib
fib_fits i h = let m : fib i ≤ fib 93 = fib_monotone h in omega arith

-- so the service that answers 0 where an index is too high answers those
pub fibonacci_below_94 : {f i : ℕ} → f ≡ fibonacci_or_zero i → i ≤ 93 → f ≡ fib i
unfolding fibonacci_or_zero
fibonacci_below_94 {i = i} e h = e ∙ rw (le-leb i 93 h)

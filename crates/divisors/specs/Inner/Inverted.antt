-- Divisors by their inverses modulo 2^16, for the contracts of inner functions.
use Rattle.std.specs.Prelude.{◌≡◌, Bool, true, false, List, ℕ, ◌*◌, ◌/◌, ◌%◌, ◌≤◌, ◌<◌, length, get_or}
use Rattle.std.specs.Int.{◌∣◌}
use Rattle.divisors.specs.Small.{limit, SmallDivisor}

-- no small divisor of p is below e
abbrev pub NoneBelow : ℕ → ℕ → Type 0
NoneBelow p e = (d : ℕ) → d < e → ¬ (SmallDivisor p d)

-- neither 2 nor 3 divides p: numbers from 5 on are left to try
pub record LeftFrom5 (p : ℕ) : Type 0 where
  pub odd : ¬ (p % 2 ≡ 0)
  pub not_by_three : ¬ (p % 3 ≡ 0)

-- 2^16
abbrev pub half_word : ℕ
half_word = 65536

-- 3 × 2^30: below it the upper half of a number and a number up to 2^14 have a sum below 2^16
abbrev pub sum_limit : ℕ
sum_limit = 3221225472

-- n times x modulo 2^16: the quotient, where x is the inverse of d and d divides n
abbrev pub quotient_by : ℕ → ℕ → ℕ
quotient_by x n = n * x % half_word

-- the upper half of d times that, of which the lower half is n
abbrev pub carry_of : ℕ → ℕ → ℕ → ℕ
carry_of n d x = quotient_by x n * d / half_word

-- x is the inverse of d, a number from 2 to 2^14
pub record HalfWordInverse (d x : ℕ) : Type 0 where
  pub low : 2 ≤ d
  pub high : d ≤ limit
  pub one : d * x % half_word ≡ 1

-- xs are the inverses of ds
pub record Inverses (ds xs : List ℕ) : Type 0 where
  pub same : length xs ≡ length ds
  pub each : (j : ℕ) → j < length ds → HalfWordInverse (get_or ds j 0) (get_or xs j 0)

-- p is above every entry, and small enough that the sum in `excess` fits 16 bits
pub record InReach (p : ℕ) : Type 0 where
  pub above : limit < p
  pub below : p < sum_limit

-- a table for p: the entries ds and their inverses xs
pub record Table (p : ℕ) (ds xs : List ℕ) : Type 0 where
  pub reach : InReach p
  pub inverses : Inverses ds xs

-- r is zero where d divides p, and only there
pub record ZeroWhereDivided (p d r : ℕ) : Type 0 where
  pub divides : r ≡ 0 → d ∣ p
  pub zero : d ∣ p → r ≡ 0

-- where `found`, p has a small divisor; else none of ds divides it
pub record DividedByOne (ds : List ℕ) (p : ℕ) (found : Bool) : Type 0 where
  pub some : found ≡ true → (d : ℕ) × SmallDivisor p d
  pub none : found ≡ false → (j : ℕ) → j < length ds → ¬ (get_or ds j 0 ∣ p)

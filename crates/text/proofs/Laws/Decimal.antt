-- Decimal digits: fuel above the number doesn't matter, the last digit stands behind those of a tenth, and how many there are at most.
use mathlib.Core.Path.{◌≡◌, sym, ap, ap₂, ◌∙◌}
use mathlib.Core.Bool.{cond}
use mathlib.Core.List.{List, [], ◌∷◌, ◌++◌}
use Prim.Native.Nat.{ℕ, zero, suc, ◌+◌, ◌/◌, ◌%◌, ◌^◌, ◌≤◌, ◌<◌}
use Prim.Native.Char.{code}
use native.Mathlib.Nat.{pow-suc}
use native.Mathlib.Decide.{dec_lt}
use native.Mathlib.Omega.{arith}
use lib.Dec.{ltb}
use lib.ListN.{length, length-append}
use borrow.Author.Tests.{lt-ltb, le-ltb}
use Rattle.text.specs.Text.{decimal_within, decimal}

-- the last digit
abbrev last : ℕ → List ℕ
last n = (code "0" + n % 10) ∷ []

small : (n : ℕ) → n < 10 → n % 10 ≡ n
small n h = omega arith

module _ (fuel n : ℕ) where
  within_one : n < 10 → decimal_within (suc fuel) n ≡ last n
  unfolding decimal_within
  within_one h = rw (lt-ltb n 10 h)

  within_more : 10 ≤ n → decimal_within (suc fuel) n ≡ decimal_within fuel (n / 10) ++ last n
  unfolding decimal_within
  within_more h = rw (le-ltb n 10 h)

-- with fuel above the number, the digits don't depend on it
within_enough : (fuel fuel' n : ℕ) → n < fuel → n < fuel' → decimal_within fuel n ≡ decimal_within fuel' n
within_enough zero fuel' n h h' = absurd (omega arith)
within_enough (suc fuel) zero n h h' = absurd (omega arith)
within_enough (suc fuel) (suc fuel') n h h' =
    elim (dec_lt n 10) [
      | yes k ↦ within_one fuel n k ∙ sym (within_one fuel' n k)
      | no k ↦
          within_more fuel n (omega arith)
          ∙ ap (λ (l : List ℕ). l ++ last n) (within_enough fuel fuel' (n / 10) (omega arith) (omega arith))
          ∙ sym (within_more fuel' n (omega arith))
    ]

-- so a number's digits are its one digit, or those of a tenth and its last
pub decimal_one : (n : ℕ) → n < 10 → decimal n ≡ (code "0" + n) ∷ []
unfolding decimal
decimal_one n h = within_one n n h ∙ ap (λ (d : ℕ). (code "0" + d) ∷ []) (small n h)

pub decimal_again : (n : ℕ) → 10 ≤ n → decimal n ≡ decimal (n / 10) ++ (code "0" + n % 10) ∷ []
unfolding decimal
decimal_again n h = within_more n n h ∙ ap (λ (l : List ℕ). l ++ last n) (within_enough n (suc (n / 10)) (n / 10) (omega arith) (omega arith))

-- by single digits, where there are at most three
pub last_digit : (n : ℕ) → decimal (n % 10) ≡ (code "0" + n % 10) ∷ []
last_digit n = decimal_one (n % 10) (omega arith)

pub one_digit : (n : ℕ) → n < 10 → decimal n ≡ decimal (n % 10)
one_digit n h = ap decimal (sym (small n h))

digits_then : (n : ℕ) (front : List ℕ) → 10 ≤ n → decimal (n / 10) ≡ front → decimal n ≡ front ++ decimal (n % 10)
digits_then n front h e = decimal_again n h ∙ ap₂ ◌++◌ e (sym (last_digit n))

pub two_digits : (n : ℕ) → 10 ≤ n → n < 100 → decimal n ≡ decimal (n / 10 % 10) ++ decimal (n % 10)
two_digits n low high = digits_then n _ low (one_digit (n / 10) (omega arith))

pub three_digits : (n : ℕ) → 100 ≤ n → n < 1000 → decimal n ≡ decimal (n / 10 / 10 % 10) ++ decimal (n / 10 % 10) ++ decimal (n % 10)
three_digits n low high = digits_then n _ (omega arith) (two_digits (n / 10) (omega arith) (omega arith))

-- ---- their count

within_length : (fuel k n : ℕ) → n < 10 ^ suc k → length (decimal_within fuel n) ≤ suc k
unfolding decimal_within
within_length zero k n h = omega arith
within_length (suc fuel) zero n h = rw (within_one fuel n h) (omega arith)
within_length (suc fuel) (suc k) n h =
    elim (dec_lt n 10) [
      | yes d ↦ rw (within_one fuel n d) (omega arith)
      | no d ↦
          let e = pow-suc 10 (suc k) in
          let shorter = within_length fuel k (n / 10) (omega arith) in
          rw (within_more fuel n (omega arith)) (omega (arith, length-append (decimal_within fuel (n / 10)) (last n)))
    ]

pub decimal_length : (k n : ℕ) → n < 10 ^ suc k → length (decimal n) ≤ suc k
unfolding decimal
decimal_length k n h = within_length (suc n) k n h

pub decimal_32 : (n : ℕ) → n < 4294967296 → length (decimal n) ≤ 10
decimal_32 n h = decimal_length 9 n (omega arith)

pub decimal_64 : (n : ℕ) → n < 18446744073709551616 → length (decimal n) ≤ 20
decimal_64 n h = decimal_length 19 n (omega arith)

pub decimal_some : (n : ℕ) → 0 < length (decimal n)
unfolding decimal decimal_within
decimal_some n = omega (arith, length-append (cond (ltb n 10) [] (decimal_within n (n / 10))) (last n))

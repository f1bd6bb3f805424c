-- Document 02, T-06: the order of a modulo p as the group theorist has it, and the test that decides it (`order_test` and `test_order` of
-- proofs/Laws/Orders say that they agree). Modulo 1 no number has one.
use Rattle.std.specs.Prelude.{◌≡◌, Bool, ◌&&◌, ℕ, ◌-◌, ◌%◌, ◌^◌, ◌≤◌, ◌<◌, leb, eqb}
use Rattle.divisors.specs.Search.{greatest}

-- r is the least positive exponent that gives 1
pub record OrderOf (p a r : ℕ) : Type 0 where
  pub low : 1 ≤ r
  pub one : a ^ r % p ≡ 1
  pub least : (n : ℕ) → 1 ≤ n → n < r → ¬ (a ^ n % p ≡ 1)

-- the exponent n gives 1
abbrev pub gives_one : ℕ → ℕ → ℕ → Bool
gives_one p a n = eqb (a ^ n % p) 1

-- r is positive and gives 1, and no smaller positive exponent does
unfoldable pub is_order : ℕ → ℕ → ℕ → Bool
is_order p a r = leb 1 r && (gives_one p a r && eqb (greatest (gives_one p a) (r - 1)) 0)

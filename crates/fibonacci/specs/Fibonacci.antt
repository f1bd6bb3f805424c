-- Fibonacci and Lucas numbers.
use Rattle.std.specs.Prelude.{Bool, true, false, ℕ, zero, suc, ◌+◌}

-- F_0 = 0, F_1 = 1, F_i = F_(i-1) + F_(i-2)
unfoldable pub fib : ℕ → ℕ
fib zero = 0
fib (suc zero) = 1
fib (suc (suc n)) = fib (suc n) + fib n

-- L_1 = 1, L_2 = 3, the same rule; L_0 = 2 goes before them
unfoldable pub lucas : ℕ → ℕ
lucas zero = 2
lucas (suc zero) = 1
lucas (suc (suc n)) = lucas (suc n) + lucas n

abbrev pub odd : ℕ → Bool
odd zero = false
odd (suc zero) = true
odd (suc (suc n)) = odd n

-- What holds of 0, 1, 2 and 3 holds of each number below 4.
use Prim.Native.Nat.{ℕ, zero, suc, ◌<◌}
use native.Mathlib.Omega.{arith}

pub each_below_4 : (P : ℕ → Type 0) → P 0 → P 1 → P 2 → P 3 → (i : ℕ) → i < 4 → P i
each_below_4 P a b c d zero h = a
each_below_4 P a b c d (suc zero) h = b
each_below_4 P a b c d (suc (suc zero)) h = c
each_below_4 P a b c d (suc (suc (suc zero))) h = d
each_below_4 P a b c d (suc (suc (suc (suc i)))) h = absurd (omega arith)

-- The least divisor of n above 1.
use Rattle.std.specs.Prelude.{ℕ, ◌≤◌, ◌<◌}
use Rattle.std.specs.Int.{◌∣◌}

pub record LeastDivisor (n d : ℕ) : Type 0 where
  pub low : 2 ≤ d
  pub divides : d ∣ n
  pub least : (e : ℕ) → 2 ≤ e → e < d → ¬ (e ∣ n)

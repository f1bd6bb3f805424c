-- Where run is told to go for a step: the neighbouring position; before 0, and behind the largest 32-bit number, that largest number, which
-- is above every step count.
use Rattle.std.specs.Prelude.{Bool, cond, ℕ, suc, ◌-◌, ltb}

abbrev pub no_position : ℕ
no_position = 4294967295

unfoldable pub step_goal : Bool → ℕ → ℕ
step_goal backward position =
    cond backward
    (cond (ltb 0 position) (position - 1) no_position)
    (cond (ltb position no_position) (suc position) no_position)

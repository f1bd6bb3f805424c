-- Parameters that a verb can do with, and parameters held to what it can.
use Rattle.std.specs.Prelude.{List, map, ℕ, min, ◌≤◌, length, get_or}
use Rattle.tool.specs.Verbs.{max_parameters}

-- all of a row are at most a number
abbrev pub AllAtMost : ℕ → List ℕ → Type 0
AllAtMost most values = (i : ℕ) → get_or values i 0 ≤ most

-- parameters that a verb can do with: no more than there is room for, and none above its limit
pub record Usable (limit : ℕ) (values : List ℕ) : Type 0 where
  pub few : length values ≤ max_parameters
  pub within : AllAtMost limit values

-- parameters, each held to a limit
unfoldable pub held_to : ℕ → List ℕ → List ℕ
held_to limit values = map (λ (n : ℕ). min n limit) values

-- A step: mul, div or swp with a target and a source register. REQUIREMENTS 3 and 5.
use Rattle.std.specs.Prelude.{◌≢◌, List, [], ◌∷◌, ℕ, ◌<◌}
use Rattle.tape.specs.declared.Step.{Step}
use Rattle.tape.specs.declared.Step.TheVariants.{Mul, Div, Swp}

-- two different registers of the four
pub record Distinct (target source : ℕ) : Type 0 where
  pub target_is_one : target < 4
  pub source_is_one : source < 4
  pub differ : target ≢ source

-- target and source are never equal; in swp the target is the smaller
abbrev pub Sound : Step → Type 0
Sound (Mul t s) = Distinct t s
Sound (Div t s) = Distinct t s
Sound (Swp t s) = Distinct t s × (t < s)

abbrev pub AllSound : List Step → Type 0
AllSound [] = Unit {0}
AllSound (x ∷ xs) = Sound x × AllSound xs

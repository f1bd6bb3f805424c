-- The steps of some words, one after another in a direction.
use Rattle.std.specs.Prelude.{Bool, cond, List, ℕ, ◌-◌, length, get_or, take, drop}
use Rattle.tape.specs.declared.Step.{Step}
use Rattle.tape.specs.Inner.Operations.{raw_step, raw_steps}
use Rattle.machine.specs.Machine.{inverse_step, inverted}

-- the step that comes after i others
abbrev pub directed_step : Bool → List ℕ → ℕ → Step
directed_step undone words i = cond undone (inverse_step (raw_step (get_or words (length words - 1 - i) 0))) (raw_step (get_or words i 0))

-- the steps that come after i others
abbrev pub steps_after : Bool → List ℕ → ℕ → List Step
steps_after undone words i = cond undone (inverted (take (length words - i) (raw_steps words))) (drop i (raw_steps words))

-- REQUIREMENTS 8: a service on a tape refuses what check refuses, then by its own list, else it answers.
use Rattle.std.specs.Prelude.{List, ◌++◌, ℕ}
use Rattle.refusal.specs.Outcomes.{Outcome, Rule, outcome}
use Rattle.program.specs.Services.{check_rules}

-- what comes of a tape, a service's own refusals and its answer
unfoldable pub on_tape : {A : Type 0} → List ℕ → List Rule → A → Outcome A
on_tape tape own x = outcome (check_rules tape ++ own) x

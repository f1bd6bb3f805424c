-- A tape accepted with its header, by check's refusals.
use Rattle.std.specs.Prelude.{◌≡◌, List, ℕ}
use Rattle.std.specs.declared.result.Result.{Result}
use Rattle.std.specs.declared.result.Result.TheVariants.{Ok, Err}
use Rattle.refusal.specs.declared.Refusal.{Refusal}
use Rattle.refusal.specs.Refusals.{number_of}
use Rattle.refusal.specs.Outcomes.{refused, answered}
use Rattle.program.specs.Services.{accept_outcome}
use Rattle.accepting.specs.declared.accepted_tape.Accepted.{Accepted}

-- the refusal that check gives the tape, or the tape itself, with the header that it answers
abbrev pub AcceptedAs : List ℕ → Result Accepted Refusal → Type 0
AcceptedAs tape (Ok a) = (a.tape.now ≡ tape) × (accept_outcome tape ≡ answered a.header)
AcceptedAs tape (Err e) = accept_outcome tape ≡ refused (number_of e)

-- `list_tape` meets its contract: what check refuses is one line, and an accepted tape is `list_accepted`'s.
use mathlib.Core.Path.{◌≡◌, sym, ap, ◌∙◌}
use Rattle.refusal.specs.Refusals.{number_of}
use Rattle.refusal.specs.Outcomes.{refused, answered, outcome_of}
use Rattle.program.specs.Services.{accept_outcome}
use Rattle.lister.proofs.list_tape.Goals as goal

pub returns-in-Err : goal.returns-in-Err
returns-in-Err c =
    let not_accepted : accept_outcome c.args.tape.now ≡ refused (number_of c.in-Err.e) = sym c.accept.ensures ∙ ap outcome_of c.in-Err.is in
    rw not_accepted c.list_refusal.ensures

pub returns-in-Ok : goal.returns-in-Ok
returns-in-Ok c =
    let accepted : accept_outcome c.args.tape.now ≡ answered c.in-Ok.header = sym c.accept.ensures ∙ ap outcome_of c.in-Ok.is in
    rw accepted c.list_accepted.ensures

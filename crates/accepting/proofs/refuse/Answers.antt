-- `refuse` meets its contract: a refusal of the layout stands, and a tape that is laid out leaves the other.
use Rattle.std.proofs.Common.{refl, sym, ◌∙◌}
use Rattle.refusal.specs.Outcomes.{gives}
use Rattle.refusal.proofs.Laws.Exits.{exit_of}
use Rattle.tape.proofs.Laws.Reading.{read_answered, reading_refused, reading_passed}
use Rattle.accepting.proofs.refuse.Goals as goal

pub returns-in_err-read : goal.returns-in_err-read
returns-in_err-read c = exit_of _ _ c.from_residual.ensures.1 ∙ sym (reading_refused _ _ _ _ (sym c.in_err-read.ensures))

pub returns : goal.returns
returns c =
    let read = read_answered _ _ (sym c.in_ok-read.ensures) in
    sym (reading_passed _ _ _ _ read ∙ gives _ _ _ refl)

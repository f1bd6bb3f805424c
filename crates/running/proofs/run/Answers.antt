-- `run` meets its contract: what check refuses, run refuses, and the rules past it are `run_accepted`'s.
use Rattle.std.proofs.Common.{sym, ◌∙◌}
use Rattle.refusal.proofs.Laws.Exits.{exit_by}
use Rattle.program.proofs.Laws.Door.{tape_refused}
use Rattle.sequencer.specs.Records.{record_of}
use Rattle.sequencer.specs.Services.{run_outcome}
use Rattle.running.proofs.run.Goals as goal

pub returns-in_err-accepted : goal.returns-in_err-accepted
unfolding run_outcome
returns-in_err-accepted c = exit_by _ record_of _ c.from_residual.ensures.1 ∙ sym (tape_refused _ _ _ c.in_err-accepted.ensures)

pub returns : goal.returns
returns c = rw c.in_ok-accepted.ensures.0 at c.run_accepted.ensures

-- `words_between` meets its contract: what check refuses, it refuses, and the rule past it is `cut_accepted`'s.
use Rattle.std.proofs.Common.{sym, ◌∙◌}
use Rattle.refusal.proofs.Laws.Exits.{exit_by}
use Rattle.program.proofs.Laws.Door.{tape_refused}
use Rattle.sequencer.specs.Services.{cut_outcome}
use Rattle.inspecting.proofs.words_between.Goals as goal

pub returns-in_err-accepted : goal.returns-in_err-accepted
unfolding cut_outcome
returns-in_err-accepted c = exit_by _ _ _ c.from_residual.ensures.1 ∙ sym (tape_refused _ _ _ c.in_err-accepted.ensures)

pub returns : goal.returns
returns c = rw c.in_ok-accepted.ensures.0 at c.cut_accepted.ensures

-- `raise` meets its contract: what check refuses is refused, and the rules past it are `raise_accepted`'s.
use Rattle.std.proofs.Common.{◌∙◌}
use Rattle.refusal.proofs.Laws.Exits.{exit_verdict}
use Rattle.sequencer.proofs.Laws.Bases.{raise_not_accepted}
use Rattle.raising.proofs.raise.Goals as goal

pub returns-in_err-accepted : goal.returns-in_err-accepted
returns-in_err-accepted c =
    let told = raise_not_accepted _ _ c.in_err-accepted.ensures in record {
      result_value = exit_verdict _ _ c.from_residual.ensures.1 ∙ told.0;
      bases_after = told.1;
    }

pub returns : goal.returns
returns c = rw c.in_ok-accepted.ensures.0 at c.raise_accepted.ensures

-- `accept` meets its contract: a tape of a wrong length is refused, and the other rules are `accept_measured`'s.
use Rattle.std.proofs.Common.{sym, ◌∙◌}
use Rattle.refusal.proofs.Laws.Exits.{exit_of}
use Rattle.program.proofs.Laws.Checking.{check_unmeasured}
use Rattle.accepting.proofs.accept.Goals as goal

pub accept_measured-requires : goal.accept_measured-requires
accept_measured-requires c = sym c.in_ok-header.ensures

pub returns-in_err-header : goal.returns-in_err-header
returns-in_err-header c = exit_of _ _ c.from_residual.ensures.1 ∙ sym (check_unmeasured _ _ _ (sym c.in_err-header.ensures))

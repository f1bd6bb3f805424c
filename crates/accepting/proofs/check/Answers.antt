-- `check` meets its contract: the rules are those of `accept`, and only the answer differs.
use Rattle.std.proofs.Common.{sym, ◌∙◌}
use Rattle.refusal.proofs.Laws.Rules.{still_refused, still_answered}
use Rattle.refusal.proofs.Laws.Exits.{exit_verdict}
use Rattle.accepting.proofs.check.Goals as goal

pub returns-in_err-accept : goal.returns-in_err-accept
returns-in_err-accept c = exit_verdict _ _ c.from_residual.ensures.1 ∙ sym (still_refused _ 0 _ (sym c.in_err-accept.ensures))

pub returns : goal.returns
returns c = sym (still_answered _ 0 _ (sym c.in_ok-accept.ensures))

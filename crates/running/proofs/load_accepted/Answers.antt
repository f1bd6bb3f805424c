-- `load_accepted` meets its contract: on an accepted tape a base's own rules are left.
use Rattle.std.proofs.Common.{sym, ◌∙◌}
use Rattle.refusal.proofs.Laws.Rules.{still_refused, still_answered}
use Rattle.refusal.proofs.Laws.Exits.{exit_by}
use Rattle.sequencer.specs.Records.{record_of}
use Rattle.sequencer.proofs.Laws.Cases.{load_rules}
use Rattle.running.proofs.load_accepted.Goals as goal

pub returns-in_err-check_base : goal.returns-in_err-check_base
returns-in_err-check_base c =
    exit_by _ record_of _ c.from_residual.ensures.1
    ∙ sym (load_rules _ _ c.args.accepted.is_accepted _ ∙ still_refused 0 _ _ (sym c.in_err-check_base.ensures))

pub returns : goal.returns
returns c = sym (load_rules _ _ c.args.accepted.is_accepted _ ∙ still_answered 0 _ _ (sym c.in_ok-check_base.ensures))

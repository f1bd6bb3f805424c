-- `forward_accepted` meets its contract: load's refusal, or run's outcome from the record that load answers.
use Rattle.std.proofs.Common.{sym, ap, ◌∙◌}
use Rattle.refusal.proofs.Laws.Exits.{exit_by}
use Rattle.tape.specs.declared.Header.{Header}
use Rattle.program.proofs.Laws.Checking.{header_is}
use Rattle.sequencer.specs.Records.{record_of}
use Rattle.sequencer.specs.Services.{run_outcome}
use Rattle.sequencer.proofs.Laws.Forward.{forward_refused, forward_loaded}
use Rattle.running.proofs.forward_accepted.Goals as goal

pub returns-in_err-state : goal.returns-in_err-state
returns-in_err-state c = exit_by _ record_of _ c.from_residual.ensures.1 ∙ sym (forward_refused _ _ (sym c.in_err-state.ensures))

pub returns : goal.returns
returns c =
    let tape = c.args.accepted.tape.now in
    c.run_accepted.ensures
    ∙ ap (λ (h : Header). run_outcome tape (record_of c.in_ok-state.state) h.steps) (header_is tape c.args.accepted.header c.args.accepted.is_accepted)
    ∙ sym (forward_loaded tape c.args.base (sym c.in_ok-state.ensures))

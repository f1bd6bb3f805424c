-- `preview` meets its contract: it is refused as the run on the copy is, and else shows its registers; the words of the tape's steps are
-- counted on the way that the run went.
use Rattle.std.proofs.Common.{◌≡◌, sym, ◌∙◌}
use Rattle.refusal.specs.Outcomes.{answered}
use Rattle.refusal.proofs.Laws.Exits.{exit_by}
use Rattle.sequencer.specs.Records.{record_of}
use Rattle.sequencer.specs.Services.{run_outcome}
use Rattle.sequencer.specs.Previews.{shown_of}
use Rattle.sequencer.proofs.Laws.Previews.{run_inside, preview_run}
use Rattle.previewing.proofs.preview.Goals.{In_ok-reached}
use Rattle.previewing.proofs.preview.Goals as goal

-- what the run answered
ran : (c : In_ok-reached) → let start = c.args in
    run_outcome start.tape.now (record_of start.state) start.to ≡ answered (record_of c.in_ok-reached.reached)
ran c = sym c.in_ok-reached.ensures

pub count_way-requires : goal.count_way-requires
count_way-requires c =
    let start = c.args in
    let run = run_inside start.tape.now (record_of start.state) start.to (ran (goal.at.count_way-requires c).In_ok-reached) in
    record { inside = rw c.steps.ensures run.0; words_len_bound = rw c.steps.ensures run.1 }

pub returns-in_err-reached : goal.returns-in_err-reached
returns-in_err-reached c = exit_by _ shown_of _ c.from_residual.ensures.1 ∙ sym (preview_run _ _ _ ∙ rw (sym c.in_err-reached.ensures))

pub returns : goal.returns
returns c = sym (preview_run _ _ _ ∙ rw (ran (goal.at.returns c).In_ok-reached, c.count_way.ensures, c.steps.ensures))

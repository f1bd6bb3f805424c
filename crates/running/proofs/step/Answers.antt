-- `step` meets its contract: a step is run to where `step_goal` says.
use mathlib.Core.Path.{sym, ap, ◌∙◌}
use Rattle.sequencer.specs.Records.{record_of}
use Rattle.sequencer.specs.Services.{run_outcome}
use Rattle.sequencer.proofs.Laws.Sessions.{step_by_run}
use Rattle.running.proofs.step.Goals as goal

pub returns : goal.returns
returns c =
    let start = c.args in
    let tape = start.tape.now in
    let s = record_of start.state in
    c.run.ensures ∙ ap (run_outcome tape s) c.step_goal-goal.ensures ∙ sym (step_by_run tape s start.backward)

-- `trace` meets its contract: what check refuses, trace refuses, and the rules past it are `trace_accepted`'s. What is said of every
-- answer holds of the outcome that it stands for.
use Rattle.std.proofs.Common.{sym, ◌∙◌}
use Rattle.refusal.proofs.Laws.Exits.{exit_by}
use Rattle.program.proofs.Laws.Door.{tape_refused}
use Rattle.machine.specs.Exponents.{exponents_of}
use Rattle.sequencer.specs.Services.{trace_outcome}
use Rattle.sequencer.specs.Tracing.{NeverOutside, MeansPowers}
use Rattle.sequencer.proofs.Laws.Answers.{said_of}
use Rattle.sequencer.proofs.Laws.Tracing.{trace_inside, trace_powers}
use Rattle.inspecting.proofs.trace.Goals as goal

pub returns-in_err-accepted : goal.returns-in_err-accepted
unfolding trace_outcome
returns-in_err-accepted c =
    let tape = c.args.tape.now in
    let position = c.args.position in let both = said_of (NeverOutside tape) (MeansPowers tape position) (trace_inside tape position) (trace_powers tape position)
    (exit_by _ exponents_of _ c.from_residual.ensures.1 ∙ sym (tape_refused _ _ _ c.in_err-accepted.ensures)) in record { result_value = both.0; never_outside = both.1.0; means_powers = both.1.1 }

pub returns : goal.returns
returns c =
    let tape = c.args.tape.now in
    let position = c.args.position in let both = said_of (NeverOutside tape) (MeansPowers tape position) (trace_inside tape position) (trace_powers tape position) (rw c.in_ok-accepted.ensures.0 at c.trace_accepted.ensures) in record { result_value = both.0; never_outside = both.1.0; means_powers = both.1.1 }

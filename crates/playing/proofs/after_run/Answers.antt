-- `after_run` meets its contract: an answer is the record reached, and a refusal leaves the one given.
use Rattle.std.proofs.Common.{◌≡◌, refl, ap, ◌∙◌, Result, Ok, Err}
use Rattle.std.specs.Result.{result_unwrap_or}
use Rattle.refusal.specs.declared.Refusal.{Refusal}
use Rattle.refusal.specs.Outcomes.{after}
use Rattle.sequencer.specs.declared.State.{State}
use Rattle.sequencer.specs.Records.{record_of, state_outcome_of}
use Rattle.playing.proofs.after_run.Goals as goal

kept : (answer : Result State Refusal) (given : State) → record_of (result_unwrap_or answer given) ≡ after (state_outcome_of answer) (record_of given)
kept (Ok reached) given = refl
kept (Err e) given = refl

pub returns : goal.returns
returns c = ap record_of c.unwrap_or.ensures ∙ kept c.args.answer c.args.given

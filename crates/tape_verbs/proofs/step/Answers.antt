-- `step` meets its contract: opening a session and a step of it come to the step itself, told by the two numbers.
use Rattle.std.proofs.Common.{◌≡◌, sym, ap, ◌∙◌, Bool, List, ℕ, get_or, arith}
use Rattle.refusal.specs.Outcomes.{refusal_number, verdict_of, after}
use Rattle.refusal.proofs.Laws.Rules.{number_range}
use Rattle.sequencer.specs.Records.{Record, record_in, record_of}
use Rattle.sequencer.specs.Sessions.{is_backward, open_outcome, held_record, session_outcome}
use Rattle.sequencer.proofs.Laws.Sessions.{not_opened, not_stepped, stepped}
use Rattle.tape_verbs.proofs.step.Goals as goal
use Rattle.tape_verbs.proofs.step.Goals.{After-step_once-once}

-- what the session came to, by the parameters
module _ (c : After-step_once-once) where
  abbrev values : List ℕ
  values = c.args.values.now

  abbrev tape : List ℕ
  tape = c.args.tape.now

  abbrev s : Record
  s = record_in values

  abbrev backward : Bool
  backward = is_backward (get_or values 5 0)

  opened_is : refusal_number (verdict_of c.step_once-once.result.opened) ≡ refusal_number (open_outcome tape s)
  opened_is = rw c.record.ensures at c.step_once-once.ensures.opened_value

  stepped_is : refusal_number (verdict_of c.step_once-once.result.stepped) ≡ refusal_number (session_outcome tape s backward)
  stepped_is = rw (c.record.ensures, c.parameter.ensures) at c.step_once-once.ensures.stepped_value

  state_is : record_of c.step_once-once.result.state ≡ after (session_outcome tape s backward) (held_record (open_outcome tape s))
  state_is = rw (c.record.ensures, c.parameter.ensures) at c.step_once-once.ensures.state_value

pub returns-in-Err : goal.returns-in-Err
returns-in-Err c =
    let once = (goal.at.returns-in-Err c).After-step_once-once in
    let number = sym (opened_is once) ∙ ap (λ o. refusal_number (verdict_of o)) c.in-Err.is in
    let some = number_range c.in-Err.e in
    rw (not_opened (tape once) (s once) (backward once) (λ zero. omega (arith, sym number ∙ zero, some.0)), number, ← c.from.ensures) c.refuse.ensures

pub returns-in-Err-stepped : goal.returns-in-Err-stepped
returns-in-Err-stepped c =
    let once = (goal.at.returns-in-Err-stepped c).After-step_once-once in
    let opened = sym (opened_is once) ∙ ap (λ o. refusal_number (verdict_of o)) c.in_default.is in
    let number = sym (stepped_is once) ∙ ap (λ o. refusal_number (verdict_of o)) c.in-Err-stepped.is in
    let some = number_range c.in-Err-stepped.e in
    rw (not_stepped (tape once) (s once) (backward once) opened (λ zero. omega (arith, sym number ∙ zero, some.0)), number, ← c.from-in-Err-stepped.ensures) c.refuse-in-Err-stepped.ensures

pub returns : goal.returns
returns c =
    let once = (goal.at.returns c).After-step_once-once in
    let opened = sym (opened_is once) ∙ ap (λ o. refusal_number (verdict_of o)) c.in_default.is in
    let done = sym (stepped_is once) ∙ ap (λ o. refusal_number (verdict_of o)) c.in_default-stepped.is in
    rw (stepped (tape once) (s once) (backward once) opened done, ← state_is once) c.show.ensures

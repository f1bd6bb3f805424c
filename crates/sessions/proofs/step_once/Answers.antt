-- `step_once` meets its contract: the session that `open` gives is passed to `step`, and what the two contracts say of it is put together.
use Rattle.std.proofs.Common.{◌≡◌, ◌∙◌, ap, List, ℕ, Bool}
use Rattle.refusal.specs.Outcomes.{refusal_number, after}
use Rattle.sequencer.specs.Records.{Record}
use Rattle.sequencer.specs.Sessions.{open_outcome, step_outcome, session_outcome, held_tape, held_record}
use Rattle.sessions.proofs.step_once.Goals as goal

-- what a step of the session comes to that holds a tape t and a record r
outcome_is : (tape t : List ℕ) (s r : Record) (backward : Bool) → t ≡ held_tape (open_outcome tape s) tape → r ≡ held_record (open_outcome tape s)
    → step_outcome t r backward ≡ session_outcome tape s backward
unfolding session_outcome
outcome_is tape t s r backward e f = λ i. step_outcome (e i) (f i) backward

pub returns-clause-stepped_value : goal.returns-clause-stepped_value
returns-clause-stepped_value c =
    let opened = c.open-opened.ensures in
    c.step-stepped.ensures.number_value ∙ ap refusal_number (outcome_is _ _ _ _ _ opened.tape_value opened.state_value)

pub returns-clause-state_value : goal.returns-clause-state_value
returns-clause-state_value c =
    let opened = c.open-opened.ensures in
    let same = outcome_is _ _ _ _ c.args.backward opened.tape_value opened.state_value in
    c.step-stepped.ensures.state_value ∙ (λ i. after (same i) (opened.state_value i))

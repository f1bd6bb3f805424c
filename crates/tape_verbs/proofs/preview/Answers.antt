-- `preview` meets its contract: told by opening's number, a preview of the session comes to the preview itself.
use Rattle.std.proofs.Common.{◌≡◌, sym, ap, ◌∙◌, List, ℕ, get_or, arith}
use Rattle.refusal.specs.Outcomes.{refusal_number, verdict_of}
use Rattle.refusal.proofs.Laws.Rules.{number_range}
use Rattle.sequencer.specs.Records.{Record, record_in}
use Rattle.sequencer.specs.Sessions.{open_outcome}
use Rattle.sequencer.specs.Previews.{session_preview, preview_outcome_of, shown_of}
use Rattle.sequencer.proofs.Laws.Previews.{preview_not_opened, preview_opened}
use Rattle.tool.specs.Texts.{preview_lines}
use Rattle.printing.proofs.Laws.Seen.{printed_by}
use Rattle.tape_verbs.proofs.preview.Goals as goal
use Rattle.tape_verbs.proofs.preview.Goals.{After-preview_once-previewed}

-- what the session came to, by the parameters
module _ (c : After-preview_once-previewed) where
  abbrev values : List ℕ
  values = c.args.values.now

  abbrev tape : List ℕ
  tape = c.args.tape.now

  abbrev s : Record
  s = record_in values

  abbrev to : ℕ
  to = get_or values 5 0

  opened_is : refusal_number (verdict_of c.preview_once-previewed.result.opened) ≡ refusal_number (open_outcome tape s)
  opened_is = rw c.record.ensures at c.preview_once-previewed.ensures.opened_value

  preview_is : preview_outcome_of c.preview_once-previewed.result.preview ≡ session_preview tape s to
  preview_is = rw (c.record.ensures, c.parameter.ensures) at c.preview_once-previewed.ensures.preview_value

pub returns-in-Err : goal.returns-in-Err
returns-in-Err c =
    let once = (goal.at.returns-in-Err c).After-preview_once-previewed in
    let number = sym (opened_is once) ∙ ap (λ o. refusal_number (verdict_of o)) c.in-Err.is in
    let some = number_range c.in-Err.e in
    rw (preview_not_opened (tape once) (s once) (to once) (λ zero. omega (arith, sym number ∙ zero, some.0)), number, ← c.from.ensures) c.refuse.ensures

pub returns : goal.returns
returns c =
    let once = (goal.at.returns c).After-preview_once-previewed in
    let none = sym (opened_is once) ∙ ap (λ o. refusal_number (verdict_of o)) c.in_default.is in
    let answer = once.preview_once-previewed.result.preview in
    rw (← preview_opened (tape once) (s once) (to once) none, ← preview_is once, ← printed_by c.args.own shown_of preview_lines answer) c.print.ensures

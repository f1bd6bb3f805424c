-- `fibexp_cut` meets its contract: a part stands where the definitions say; a refusal stores nothing.
use Rattle.std.proofs.Common.{◌≡◌, sym, ap, ◌∙◌, length, arith}
use Rattle.refusal.specs.Outcomes.{answered, refusal_number}
use Rattle.refusal.proofs.Laws.Rules.{number_range}
use Rattle.tape.specs.Layout.{step_words}
use Rattle.sequencer.specs.Services.{cut_outcome, cut_part}
use Rattle.sequencer.proofs.Laws.Answers.{Stands, cut_stands, cut_not}
use Rattle.capi.proofs.fibexp_cut.Goals as goal

pub returns-in-Err : goal.returns-in-Err
returns-in-Err c =
    let refused = rw c.in-Err.is at c.cut-answer.ensures.result_value in
    let number = ap refusal_number refused in
    let some = number_range c.in-Err.e in
    let not = cut_not _ _ _ (λ zero. omega (arith, number ∙ zero, some.0)) in
    record {
      value = c.from.ensures ∙ number;
      start_after = sym (not _).0;
      count_after = sym (not _).1;
      tape_after = λ zero. absurd (omega (arith, sym c.from.ensures ∙ zero, some.0));
    }

-- where it is not refused
passed : (c : goal.After-step_index) → let args = c.args in answered c.cut-answer.result.part.now ≡ cut_outcome args.tape.now args.first args.last
passed c = rw c.in_default.is at c.cut-answer.ensures.result_value

-- where the part stands
stands : (c : goal.After-step_index) → let args = c.args in Stands args.tape.now args.first args.last
stands c = cut_stands _ _ _ (sym (ap refusal_number (passed c)))

-- and its words are the steps'
words : (c : goal.After-step_index) → let args = c.args in c.cut-answer.result.part.now ≡ step_words args.tape.now args.first args.last
words c = c.cut-answer.ensures.part_value ∙ ap cut_part (stands c).words

pub overflow_cast-start : goal.overflow_cast-start
overflow_cast-start c = let at = stands c in record { fits = omega (arith, c.step_index.ensures) }

pub overflow_cast-count : goal.overflow_cast-count
overflow_cast-count c = let at = stands c in record { fits = omega (arith, ap length (words c)) }

pub returns : goal.returns
returns c =
    let at = stands c in
    let is = words c in
    record {
      value = ap refusal_number (passed c);
      start_after = c.step_index.ensures ∙ sym (at.start _);
      count_after = ap length is ∙ sym (at.count _);
      tape_after = λ zero. rw (is, c.step_index.ensures, at.words) at.part;
    }

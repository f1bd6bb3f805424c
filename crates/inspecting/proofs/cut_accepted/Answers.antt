-- `cut_accepted` meets its contract: its return is refused by cut's one rule, or passes it.
use Rattle.std.proofs.Common.{sym, ap, ◌∙◌}
use Rattle.refusal.specs.Outcomes.{answered, gives, passes, answers}
use Rattle.sequencer.specs.Services.{cut_rules}
use Rattle.sequencer.proofs.Laws.Cases.{cut_rules_lem, cut_words}
use Rattle.inspecting.proofs.cut_accepted.Goals as goal

pub returns-then-is_bad_cut : goal.returns-then-is_bad_cut
unfolding cut_rules
returns-then-is_bad_cut c = sym (cut_rules_lem _ _ c.args.accepted.is_accepted _ _ ∙ gives _ _ _ (sym c.is_bad_cut.ensures ∙ c.if-is_bad_cut.true))

pub returns : goal.returns
unfolding cut_rules
returns c =
    let accept = c.args.accepted.is_accepted in
    let good = sym c.is_bad_cut.ensures ∙ c.if-is_bad_cut.false in
    ap answered (c.step_words.ensures ∙ cut_words _ _ accept _ _ good) ∙ sym (cut_rules_lem _ _ accept _ _ ∙ passes _ _ _ good ∙ answers _)

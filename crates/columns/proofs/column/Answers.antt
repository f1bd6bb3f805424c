-- `column` meets its contract: its start is in range, so the steps come to what they make of it, or to 12 where they leave the range.
use mathlib.Core.Path.{sym, ap, ◌∙◌}
use mathlib.Core.Bool.{not}
use lib.IntN.{pos}
use lib.ListN.{length}
use Rattle.refusal.specs.Outcomes.{answered, gives, passes, answers}
use Rattle.tape.specs.Inner.Operations.{raw_steps}
use Rattle.machine.specs.Exponents.{shift_all, all_in_range, stays_in_range}
use Rattle.machine.proofs.Laws.Lists.{four_first}
use Rattle.tables.specs.Inner.Columns.{column_outcome}
use Rattle.tables.proofs.Laws.Ranges.{column_four, unit_range}
use Rattle.columns.proofs.column.Goals as goal

pub shift_all-requires : goal.shift_all-requires
shift_all-requires c = ap all_in_range c.start_of-exponents.ensures ∙ unit_range c.args.j

pub returns-then-not-shift_all : goal.returns-then-not-shift_all
unfolding column_outcome
returns-then-not-shift_all c =
    let words = c.args.words.now in
    let out = ap (stays_in_range (raw_steps words)) (sym c.start_of-exponents.ensures) ∙ sym c.shift_all.ensures.value ∙ c.if-not-shift_all.true in
    sym (gives _ _ _ (ap not out))

pub returns : goal.returns
unfolding column_outcome
returns c =
    let words = c.args.words.now in
    let stayed = c.if-not-shift_all.false in
    let stays = ap (stays_in_range (raw_steps words)) (sym c.start_of-exponents.ensures) ∙ sym c.shift_all.ensures.value ∙ stayed in
    let there = c.shift_all.ensures.exponents_after stayed ∙ ap (shift_all (raw_steps words)) c.start_of-exponents.ensures in
    sym
    (passes _ _ _ (ap not stays)
    ∙ answers _
    ∙ ap answered (sym (c.exponents_of.ensures ∙ four_first (pos 0) _ (ap length there ∙ column_four _ c.args.j) ∙ there)))

-- `is_bad_cut` meets its contract: the three tests, one after another.
use mathlib.Core.Path.{sym}
use Rattle.sequencer.proofs.Laws.Cases.{cut_first, cut_last, cut_order}
use Rattle.inspecting.proofs.is_bad_cut.Goals as goal

pub returns-then-steps-first : goal.returns-then-steps-first
returns-then-steps-first c = sym (cut_first _ _ _ c.if-steps-first.true)

pub returns-then-steps-last : goal.returns-then-steps-last
returns-then-steps-last c = sym (cut_last _ _ _ c.if-steps-first.false c.if-steps-last.true)

pub returns : goal.returns
returns c = sym (cut_order _ _ _ c.if-steps-first.false c.if-steps-last.false)

-- `is_bad_register` meets its contract: the test of 0, then the test of p.
use Rattle.std.proofs.Common.{sym, ◌∙◌, eq-eqb}
use Rattle.sequencer.proofs.Laws.Cases.{register_zero, register_some}
use Rattle.conditions.proofs.is_bad_register.Goals as goal

pub returns-then-x-eq0 : goal.returns-then-x-eq0
returns-then-x-eq0 c = eq-eqb _ _ c.if-x-eq0.true ∙ sym (register_zero _ _ c.if-x-eq0.true)

pub returns-else-x-eq0 : goal.returns-else-x-eq0
returns-else-x-eq0 c = sym (register_some _ _ c.if-x-eq0.false)

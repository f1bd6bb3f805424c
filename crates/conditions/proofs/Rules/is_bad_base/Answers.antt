-- `Rules::is_bad_base` meets its contract: a free program takes every base, and of a named one the order decides.
use Rattle.std.proofs.Common.{sym, ap, ◌∙◌, not, eq-eqb}
use Rattle.sequencer.proofs.Laws.Cases.{base_free, base_named}
use Rattle.conditions.proofs.Rules.is_bad_base.Goals as goal

pub returns-then-self-ne0 : goal.returns-then-self-ne0
returns-then-self-ne0 c = ap not c.is_order_of.ensures ∙ rw (← c.self.view_is) (sym (base_named _ _ c.if-self-ne0.true))

pub returns-else-self-ne0 : goal.returns-else-self-ne0
returns-else-self-ne0 c = rw (← c.self.view_is) (ap not (eq-eqb _ _ c.if-self-ne0.false) ∙ sym (base_free _ _ c.if-self-ne0.false))

-- `rules::is_free_or_named` meets its contract: each return is a case of the rule by its tests.
use Rattle.std.proofs.Common.{sym, ne_eqb}
use Rattle.tape.proofs.Laws.Reading.{header_named, free_order, free_exponent}
use Rattle.layout.proofs.rules.is_free_or_named.Goals as goal

pub returns-then-h-ne0 : goal.returns-then-h-ne0
returns-then-h-ne0 c = rw (header_named c.args.h c.if-h-ne0.true, ne_eqb c.args.h.variant 0 c.if-h-ne0.true)

pub returns-then-h-eq0 : goal.returns-then-h-eq0
returns-then-h-eq0 c = sym (free_exponent _ c.if-h-ne0.false c.if-h-eq0.true)

pub returns-else-h-eq0 : goal.returns-else-h-eq0
returns-else-h-eq0 c = rw (free_order c.args.h c.if-h-ne0.false c.if-h-eq0.false, ne_eqb c.args.h.order 0 c.if-h-eq0.false)

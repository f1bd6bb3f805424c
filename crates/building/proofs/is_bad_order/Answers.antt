-- `is_bad_order` meets its contract: below 2 the order is refused, and from 2 on the test is the remainder's.
use mathlib.Core.Path.{sym}
use Rattle.named.proofs.Laws.Parameters.{order_low, order_divides}
use Rattle.building.proofs.is_bad_order.Goals as goal

pub returns-then-r-lt2 : goal.returns-then-r-lt2
returns-then-r-lt2 c = sym (order_low _ _ c.if-r-lt2.true)

pub returns : goal.returns
returns c = sym (order_divides _ _ c.if-r-lt2.false)

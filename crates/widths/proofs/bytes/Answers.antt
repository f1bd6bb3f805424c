-- `bytes` meets its contract: the parameters that were gone through are put; a full row takes no more.
use Rattle.std.proofs.Common.{arith, rules, ◌<◌, length}
use Rattle.text.proofs.Laws.Puts.{put_none, put_rest, put_length}
use Rattle.tool.specs.Verbs.{largest8}
use Rattle.widths.proofs.Laws.Stored.{put_held, put_all_held}
use Rattle.widths.proofs.bytes.Goals as goal

pub overflow_add-next : goal.overflow_add-next
overflow_add-next c = omega (arith, put_length c.loop-value.invariant)

pub loop-value-preserved : goal.loop-value-preserved
loop-value-preserved c =
    let more : c.loop-value.value-index < length c.args.values.now = search rules in
    put_held largest8 _ _ more c.if-row-next.false c.held_byte.ensures c.loop-value.invariant

pub loop-value-init : goal.loop-value-init
loop-value-init c = put_none _ _

pub returns-then-row-next : goal.returns-then-row-next
returns-then-row-next c = put_rest _ c.loop-value.value-index c.if-row-next.true c.loop-value.invariant

pub returns : goal.returns
returns c = put_all_held largest8 _ _ (search rules) c.loop-value.invariant

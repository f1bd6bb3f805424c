-- `writer::Writer::descend` meets its contract: after each turn the words of the places so far are written.
use Rattle.std.proofs.Common.{◌≡◌, ◌<◌, length, get_or, reverse}
use Rattle.std.proofs.lemmas.List.{length_push}
use Rattle.std.proofs.lemmas.Iterator.Adapters.{YieldsList-from_rev_slice}
use Rattle.std.proofs.lemmas.Iterator.Consumers.{YieldsList-turn, YieldsList-end}
use Rattle.program.specs.Inner.Writing.{down_words}
use Rattle.program.proofs.Laws.Writing.{descend_each}
use Rattle.building.proofs.Writing.{item_room, item_written, all_written}
use Rattle.building.proofs.writer.Writer.descend.Goals as goal
use Rattle.building.proofs.writer.Writer.descend.Goals.{In-Some}

item : (c : In-Some)
    → let bits = reverse c.args.bits.now in
    let n = length c.loop-bit.yielded in
    (n < length bits) × (c.in-Some.bit.now ≡ get_or bits n c.in-Some.bit.now)
item c =
    YieldsList-turn (YieldsList-from_rev_slice c.args.bits.now cc) c.loop-bit.yielded _ c.loop-bit.yielded_by _ c.next.new.self _ c.in-Some.is c.next.ensures.steps

pub place_down-requires : goal.place_down-requires
place_down-requires c =
    item_room down_words (reverse c.args.bits.now) _ c.loop-bit.invariant (item (goal.at.place_down-requires c).In-Some) (rw descend_each at c.requires)

pub loop-bit-preserved : goal.loop-bit-preserved
loop-bit-preserved c =
    item_written down_words (reverse c.args.bits.now) _ c.loop-bit.invariant (item (goal.at.loop-bit-preserved c).In-Some) (length_push c.loop-bit.yielded _)
    c.place_down.ensures

pub returns : goal.returns
returns c =
    let end = YieldsList-end (YieldsList-from_rev_slice c.args.bits.now cc) c.loop-bit.yielded _ c.loop-bit.yielded_by _ c.next.new.self c.in-None.is c.next.ensures.steps in
    rw descend_each (all_written down_words _ _ c.loop-bit.invariant end.1)

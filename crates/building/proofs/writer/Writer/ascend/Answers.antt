-- `writer::Writer::ascend` meets its contract: after each turn the words of the places so far are written.
use Rattle.std.proofs.Common.{◌≡◌, ◌<◌, ℕ, length, get_or}
use Rattle.std.specs.List.{zip}
use Rattle.std.proofs.lemmas.List.{length_push}
use Rattle.std.proofs.lemmas.Iterator.{YieldsList-from_slice, YieldsList-from_zip}
use Rattle.std.proofs.lemmas.Iterator.Consumers.{YieldsList-turn, YieldsList-end}
use Rattle.program.proofs.Laws.Writing.{up_pair, ascend_each}
use Rattle.building.proofs.Writing.{writes_none, item_room, item_written, all_written}
use Rattle.building.proofs.writer.Writer.ascend.Goals as goal
use Rattle.building.proofs.writer.Writer.ascend.Goals.{In-Some}

pub loop-first-init : goal.loop-first-init
loop-first-init c = writes_none _

item : (c : In-Some)
    → let pairs = zip c.args.firsts.now c.args.seconds.now in
    let pair : ℕ × ℕ = (c.in-Some.first.now, c.in-Some.second.now) in
    let n = length c.loop-first.yielded in
    (n < length pairs) × (pair ≡ get_or pairs n pair)
item c =
    YieldsList-turn (YieldsList-from_zip (YieldsList-from_slice c.args.firsts.now cc) (YieldsList-from_slice c.args.seconds.now cc))
    c.loop-first.yielded _ c.loop-first.yielded_by _ c.next.new.self _ c.in-Some.is c.next.ensures.steps

pub place_up-requires : goal.place_up-requires
place_up-requires c =
    item_room up_pair (zip c.args.firsts.now c.args.seconds.now) _ c.loop-first.invariant (item (goal.at.place_up-requires c).In-Some)
    (rw (ascend_each _ _ c.requires.same_length) at c.requires.room)

pub loop-first-preserved : goal.loop-first-preserved
loop-first-preserved c =
    item_written up_pair (zip c.args.firsts.now c.args.seconds.now) _ c.loop-first.invariant (item (goal.at.loop-first-preserved c).In-Some)
    (length_push c.loop-first.yielded _) c.place_up.ensures

pub returns : goal.returns
returns c =
    let end = YieldsList-end (YieldsList-from_zip (YieldsList-from_slice c.args.firsts.now cc) (YieldsList-from_slice c.args.seconds.now cc))
    c.loop-first.yielded _ c.loop-first.yielded_by _ c.next.new.self c.in-None.is c.next.ensures.steps in
    rw (ascend_each _ _ c.requires.same_length) (all_written up_pair _ _ c.loop-first.invariant end.1)

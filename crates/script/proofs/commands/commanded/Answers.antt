-- `commands::commanded` meets its contract: each arm is what the call comes to, on parameters in their range.
use Rattle.std.specs.Prelude.{Option, Some, None, IfSome, unwrap_or}
use mathlib.Core.Path.{◌≡◌, refl, sym, ◌∙◌}
use mathlib.Core.Bool.{true}
use Prim.Native.Nat.{ℕ, min, ◌≤◌}
use native.Mathlib.Nat.{min-eq_left}
use native.Mathlib.Omega.{arith}
use lib.ListN.{length, take}
use Rattle.text.specs.Reading.{split_words}
use Rattle.tool.specs.Verbs.{max_room, largest32, limit_in}
use Rattle.tool.specs.Calls.{asked_by}
use Rattle.scripting.specs.declared.Act.{Act}
use Rattle.scripting.specs.Script.{State, in_script, build_by, commanded}
use Rattle.scripting.specs.States.{state_in}
use Rattle.scripting.proofs.Laws.Used.{did_kept}
use Rattle.tool.proofs.Laws.Held.{held_within}
use Rattle.scripting.proofs.Laws.Tapes.{did_print}
use Rattle.scripting.proofs.Laws.Commands.{list_whole}
use Rattle.scripting.proofs.Laws.Acts.{by_act, commanded_act, count_few, ActWithin, act_within_lem}
use Rattle.script.proofs.commands.commanded.Goals as goal
use Rattle.script.proofs.commands.commanded.Goals.{After-act_of}

pub slice_bounds-values-end : goal.slice_bounds-values-end
slice_bounds-values-end c =
    let u = c.understand-line in
    omega (arith, c.count_in.ensures, count_few u.result.call _ _ u.ensures.in_range, u.ensures.size)

-- what the line asks for is what its call comes to
does : (c : After-act_of) {act : Act} → c.act_of.result ≡ act
    → let asked = asked_by true (split_words c.args.arguments.now) in
    let state = state_in c.args.marks c.args.tapes.now in
    commanded (length c.args.tapes.now) asked state
    ≡ by_act (length c.args.tapes.now) act asked (take c.count_in.result c.understand-line.result.values) (unwrap_or c.args.marks.room 0) state
does c is =
    let u = c.understand-line in
    rw c.count_in.ensures (commanded_act (length c.args.tapes.now) c.args.marks c.args.tapes.now u.result.call _ u.result.values u.ensures.asked (rw (← c.is_some.ensures) (sym c.act_of.ensures ∙ is)))

-- the parameters are in the range of what is done with them
ranged : (c : After-act_of) {act : Act} → c.act_of.result ≡ act → ActWithin act (take c.count_in.result c.understand-line.result.values)
ranged c is =
    let u = c.understand-line in
    rw c.count_in.ensures (act_within_lem u.result.call c.is_some.result _ u.result.values u.ensures.in_range (sym c.act_of.ensures ∙ is))

-- no room is larger than the most
within : (room : Option ℕ) → IfSome room (λ (n : ℕ). n ≤ max_room) → unwrap_or room 0 ≤ max_room
within None most = omega arith
within (Some n) most = most

pub returns-in-Reply : goal.returns-in-Reply
returns-in-Reply c = rw (does (goal.at.returns-in-Reply c).After-act_of c.in-Reply.is) c.as_tool.ensures

pub returns-in-Edit : goal.returns-in-Edit
returns-in-Edit c =
    let verb = c.in-Edit.verb in
    let is = c.in-Edit.is in
    let d = (goal.at.returns-in-Edit c).After-act_of in
    let values = take c.count_in.result c.understand-line.result.values in
    rw (does d is)
    (did_kept (λ (capacity : ℕ) (state : State). in_script capacity verb values state) c.requires c.edit.auto.tapes
    (rw (held_within (limit_in verb) values (ranged d is)) at c.edit.ensures.did))

pub returns-in-BuildTape : goal.returns-in-BuildTape
returns-in-BuildTape c =
    let own = c.in-BuildTape.own in
    let is = c.in-BuildTape.is in
    let d = (goal.at.returns-in-BuildTape c).After-act_of in
    let values = take c.count_in.result c.understand-line.result.values in
    rw (does d is)
    (did_kept (λ (capacity : ℕ) (state : State). build_by capacity state.room own values state) c.requires c.build.auto.tapes
    (rw (held_within largest32 values (ranged d is)) at c.build.ensures.did))

pub returns-in-PlacesInRoom : goal.returns-in-PlacesInRoom
returns-in-PlacesInRoom c =
    let room = c.unwrap_or-room.ensures in
    let most = within c.args.marks.room c.requires.room in
    let e : min (unwrap_or c.args.marks.room 0) max_room ≡ unwrap_or c.args.marks.room 0 = min-eq_left most in
    let put = rw e at (rw room at c.places_in.ensures.put) in
    let short = rw e at (rw room at c.places_in.ensures.short) in
    rw (does (goal.at.returns-in-PlacesInRoom c).After-act_of c.in-PlacesInRoom.is) (did_print _ c.requires refl put short)

pub returns-in-ListInRoom : goal.returns-in-ListInRoom
returns-in-ListInRoom c =
    let room = c.unwrap_or-room.ensures in
    let e = list_whole (unwrap_or c.args.marks.room 0) c.requires (within c.args.marks.room c.requires.room) in
    let put = rw e at (rw room at c.list_in.ensures.put) in
    let short = rw e at (rw room at c.list_in.ensures.short) in
    rw (does (goal.at.returns-in-ListInRoom c).After-act_of c.in-ListInRoom.is) (did_print _ c.requires refl put short)

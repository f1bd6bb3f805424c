-- `build_in` meets its contract: the part of the buffer that is lent is a buffer of the room.
use mathlib.Core.Path.{sym}
use Prim.Native.Nat.{ℕ}
use native.Mathlib.Omega.{arith}
use lib.ListN.{length-take, length-replicate}
use lib.Seq.{length-take-le}
use Rattle.tool.specs.Verbs.{largest32, max_room}
use Rattle.scripting.specs.Script.{filled}
use Rattle.tool.specs.Inner.Held.{held_to}
use Rattle.scripting.proofs.Laws.Rooms.{filled_part, did_built_in}
use Rattle.build_lines.proofs.build_in.Goals as goal

pub slice_bounds-build_into-end : goal.slice_bounds-build_into-end
slice_bounds-build_into-end c = sym (length-take-le c.args.room (filled max_room) (omega (arith, length-replicate {A = ℕ} max_room 255, c.requires.room_in_bounds)))

pub build_into-requires : goal.build_into-requires
build_into-requires c = record { inside = c.requires.inside; short = omega (arith, length-take c.args.room (filled max_room), c.requires.room_in_bounds) }

pub returns : goal.returns
returns c = did_built_in _ c.args.room c.args.own (held_to largest32 c.args.values.now) _ _ (filled_part max_room c.args.room c.requires.room_in_bounds) c.build_into.ensures

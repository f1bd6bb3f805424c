-- `build_inside` meets its contract: it looks at the room as the definition does.
use Rattle.scripting.proofs.Laws.Commands.{build_free, build_room}
use Rattle.build_lines.proofs.build_inside.Goals as goal

pub build_in-requires-clause-room_in_bounds : goal.build_in-requires-clause-room_in_bounds
build_in-requires-clause-room_in_bounds c = rw c.in-Some.is at c.requires.room

pub returns-in-Some : goal.returns-in-Some
returns-in-Some c = rw (build_room _ _ _ c.args.marks _ c.in-Some.is) c.build_in.ensures

pub returns-in-None : goal.returns-in-None
returns-in-None c = rw (build_free _ _ _ c.args.marks _ c.in-None.is) c.build_line.ensures

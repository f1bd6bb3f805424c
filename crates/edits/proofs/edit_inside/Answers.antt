-- `edit_inside` meets its contract: each verb is its function.
use native.Mathlib.Omega.{arith}
use Rattle.tool.specs.Verbs.{largest32}
use Rattle.scripting.specs.Script.{in_script}
use Rattle.tool.specs.Inner.Held.{held_to}
use Rattle.scripting.proofs.Laws.Edits.{did_set, did_appended}
use Rattle.edits.proofs.edit_inside.Goals as goal

pub put_words-requires : goal.put_words-requires
put_words-requires c = record { inside = c.requires; behind = omega arith; within = c.requires.begin }

pub put_words-requires-in-Append : goal.put_words-requires-in-Append
put_words-requires-in-Append c = record { inside = c.requires; behind = c.requires.begin; within = omega arith }

pub returns-in-Tape : goal.returns-in-Tape
returns-in-Tape c = rw c.in-Tape.is (did_set c.requires (held_to largest32 c.args.values.now) c.put_words.ensures)

pub returns-in-Append : goal.returns-in-Append
returns-in-Append c = rw c.in-Append.is (did_appended c.requires (held_to largest32 c.args.values.now) c.put_words-in-Append.ensures)

pub returns-in-Change : goal.returns-in-Change
returns-in-Change c = rw c.in-Change.is c.change.ensures

pub returns-in-Drop : goal.returns-in-Drop
returns-in-Drop c = rw c.in-Drop.is c.drop_words.ensures

pub returns-in-Behind : goal.returns-in-Behind
unfolding in_script
returns-in-Behind c = rw c.in-Behind.is c.behind.ensures

pub returns-in-Room : goal.returns-in-Room
returns-in-Room c = rw c.in-Room.is c.room.ensures

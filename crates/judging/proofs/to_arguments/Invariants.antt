-- `to_arguments` meets its contract: the arguments of the bytes that were gone through are put; a full row takes no more of them.
use Rattle.std.proofs.Common.{take}
use Rattle.text.specs.Rows.{Put}
use Rattle.scripting.specs.Script.{arguments_of}
use Rattle.judging.proofs.to_arguments.Given as goal

abbrev pub invariant-loop-place : goal.invariant-loop-place
invariant-loop-place l = Put l.initial.row 0 (take l.place (arguments_of l.line)) l.place l.row

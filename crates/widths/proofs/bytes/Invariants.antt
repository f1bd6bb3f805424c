-- `bytes` meets its contract: the parameters that were gone through are put; a full row takes no more.
use Rattle.std.proofs.Common.{take}
use Rattle.text.specs.Rows.{Put}
use Rattle.tool.specs.Verbs.{largest8}
use Rattle.tool.specs.Inner.Held.{held_to}
use Rattle.widths.proofs.bytes.Given as goal

abbrev pub invariant-loop-value : goal.invariant-loop-value
invariant-loop-value l = Put l.initial.row l.at (take l.value-index (held_to largest8 l.values)) l.next l.row

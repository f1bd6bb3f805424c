-- `step_lines` meets its contract: with i steps written, the lines from step i + 1 on are left.
use Rattle.std.proofs.Common.{◌+◌, drop}
use Rattle.tape.specs.Layout.{steps_in}
use Rattle.putting.proofs.Laws.Buffers.{RestOf}
use Rattle.listing.specs.Listing.{step_lines}
use Rattle.listing_lines.proofs.step_lines.Given as goal

abbrev pub invariant-loop-i : goal.invariant-loop-i
invariant-loop-i l = RestOf l.initial.buffer (step_lines 1 (steps_in l.words)) l.buffer (step_lines (l.i + 1) (drop l.i (steps_in l.words)))

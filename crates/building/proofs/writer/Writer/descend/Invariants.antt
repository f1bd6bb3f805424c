-- `writer::Writer::descend` meets its contract: after each turn the words of the places so far are written.
use Rattle.std.proofs.Common.{length, take, reverse}
use Rattle.std.specs.List.{flat_map}
use Rattle.program.specs.Inner.Writing.{down_words}
use Rattle.building.specs.Writing.{Writes}
use Rattle.building.proofs.writer.Writer.descend.Given as goal

abbrev pub invariant-loop-bit : goal.invariant-loop-bit
invariant-loop-bit l = Writes l.initial.self (flat_map down_words (take (length l.yielded) (reverse l.bits))) l.self

-- `writer::Writer::ascend_back` meets its contract: after each turn the words of the places so far are written.
use Rattle.std.proofs.Common.{length, take, reverse}
use Rattle.std.specs.List.{zip, flat_map}
use Rattle.program.proofs.Laws.Writing.{back_pair}
use Rattle.building.specs.Writing.{Writes}
use Rattle.building.proofs.writer.Writer.ascend_back.Given as goal

abbrev pub invariant-loop-first : goal.invariant-loop-first
invariant-loop-first l = Writes l.initial.self (flat_map back_pair (take (length l.yielded) (zip (reverse l.firsts) (reverse l.seconds)))) l.self

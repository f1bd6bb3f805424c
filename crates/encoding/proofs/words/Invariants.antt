-- `words` meets its contract: with i words written, those of the bytes from the index 4 i on are left.
use Rattle.std.proofs.Common.{◌*◌, drop}
use Rattle.text.proofs.Laws.Puts.{RestToPut}
use Rattle.encoding.specs.Encoding.{tape_of}
use Rattle.encoding.proofs.words.Given as goal

abbrev pub invariant-loop-i : goal.invariant-loop-i
invariant-loop-i l = RestToPut l.initial.buffer 0 (tape_of l.bytes) l.i l.buffer (tape_of (drop (4 * l.i) l.bytes))

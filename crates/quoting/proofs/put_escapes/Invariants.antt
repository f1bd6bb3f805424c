-- `put_escapes` meets its contract: with so many bytes put, those stand in the buffer, escaped.
use Rattle.std.proofs.Common.{take}
use Rattle.text.specs.Quoting.{escapes}
use Rattle.putting.specs.Buffers.{Puts}
use Rattle.quoting.proofs.put_escapes.Given as goal

abbrev pub invariant-loop-byte : goal.invariant-loop-byte
invariant-loop-byte l = Puts l.initial.buffer (escapes (take l.byte-index l.bytes)) l.buffer

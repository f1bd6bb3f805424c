-- `tape_bytes` meets its contract: with so many words put, the bytes of those stand in the buffer.
use Rattle.std.proofs.Common.{take}
use Rattle.putting.specs.Buffers.{Puts}
use Rattle.encoding.specs.Encoding.{bytes_of}
use Rattle.encoding.proofs.tape_bytes.Given as goal

abbrev pub invariant-loop-word : goal.invariant-loop-word
invariant-loop-word l = Puts l.initial.buffer (bytes_of (take l.word-index l.words)) l.buffer

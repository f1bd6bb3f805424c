-- `bytes_line` meets its contract: with so many numbers put, what follows them on the line is left; each has at most 3 digits.
use Rattle.std.proofs.Common.{drop}
use Rattle.text.specs.Text.{numbers_line}
use Rattle.putting.proofs.Laws.Buffers.{RestOf}
use Rattle.lines.proofs.Laws.Numbers.{following}
use Rattle.lines.proofs.bytes_line.Given as goal

abbrev pub invariant-loop-byte : goal.invariant-loop-byte
invariant-loop-byte l = RestOf l.fn.buffer (numbers_line l.values) l.buffer (following (drop l.byte-index l.others))

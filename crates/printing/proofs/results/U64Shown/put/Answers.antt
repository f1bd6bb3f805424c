-- `put` of a number meets its contract: its line is short enough for a reply.
use Rattle.std.proofs.Common.{arith}
use Rattle.printing.proofs.results.U64Shown.put.Goals as goal

pub returns : goal.returns
returns c = record { put = c.number_line.ensures.put; short = omega (arith, c.number_line.ensures.short) }

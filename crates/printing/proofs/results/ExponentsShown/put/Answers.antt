-- `put` of four exponents meets its contract: their line is short enough for a reply.
use Rattle.std.proofs.Common.{arith}
use Rattle.printing.proofs.results.ExponentsShown.put.Goals as goal

pub returns : goal.returns
returns c = record { put = c.put_row.ensures.put; short = omega (arith, c.put_row.ensures.short) }

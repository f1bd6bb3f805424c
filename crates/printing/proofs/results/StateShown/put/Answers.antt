-- `put` of a record meets its contract: its line is short enough for a reply.
use Rattle.std.proofs.Common.{arith}
use Rattle.printing.proofs.results.StateShown.put.Goals as goal

pub returns : goal.returns
returns c = record { put = c.put_record.ensures.put; short = omega (arith, c.put_record.ensures.short) }

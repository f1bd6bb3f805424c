-- `show` meets its contract: what the value puts is all that stands in the row, and short enough for a reply.
use Rattle.std.proofs.Common.{refl, rules}
use Rattle.putting.proofs.Laws.Buffers.{puts_fresh}
use Rattle.printing.proofs.show.Goals as goal

pub returns : goal.returns
returns g c =
    let lines = puts_fresh c.new-lines.ensures c.put.ensures.put in
    record { status = refl; text = search rules; short = c.put.ensures.short }

-- `list_refusal` meets its contract: the line of the refusal's number.
use Rattle.std.proofs.Common.{rules}
use Rattle.putting.proofs.Laws.Buffers.{puts_fresh}
use Rattle.lister.proofs.list_refusal.Goals as goal

pub returns : goal.returns
returns c =
    let n = c.from-number.ensures in
    let line = rw n at (puts_fresh c.new-line.ensures c.refused_line.ensures) in
    record { put = search rules; number_value = n }

-- `put_judged` meets its contract: the verdict stands behind what was printed.
use Rattle.std.proofs.Common.{rules}
use Rattle.putting.proofs.Laws.Buffers.{puts_fresh, puts_both}
use Rattle.judging.proofs.put_judged.Goals as goal

pub returns : goal.returns
returns c =
    let judged = rw c.past_equals.ensures at (puts_fresh c.new-buffer.ensures (puts_both c.put.ensures c.put_verdict.ensures)) in
    search rules

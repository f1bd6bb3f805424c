-- `list_accepted` meets its contract: the first line, then the steps' lines.
use Rattle.std.proofs.Common.{refl, rules}
use Rattle.putting.proofs.Laws.Buffers.{puts_fresh, puts_both}
use Rattle.lister.proofs.list_accepted.Goals as goal

pub returns : goal.returns
returns c =
    let lines = puts_fresh c.new-lines.ensures (puts_both c.first_line.ensures (rw c.steps.ensures at c.step_lines.ensures)) in
    record { put = search rules; number_value = refl }

-- `put_wrong_count` meets its contract: its parts one after another.
use Rattle.std.proofs.Common.{[], ◌∷◌, rules}
use Rattle.text.specs.Text.{ascii, newline}
use Rattle.putting.proofs.Laws.Buffers.{puts_fresh, puts_both, puts_then}
use Rattle.tool.specs.Texts.{wrong_count_line}
use Rattle.complaints.proofs.put_wrong_count.Goals as goal

pub returns : goal.returns
unfolding wrong_count_line
returns c =
    let count = puts_both (puts_both (puts_both c.put.ensures c.put-2.ensures) c.put-3.ensures) c.put_count.ensures in
    let given = puts_both (puts_both count c.put-4.ensures) c.put_number.ensures in
    let all = puts_fresh c.new-line.ensures (puts_then (ascii " given") (newline ∷ []) given c.put_then.ensures) in
    search rules

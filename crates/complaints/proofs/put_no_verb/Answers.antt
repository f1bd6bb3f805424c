-- `put_no_verb` meets its contract: its parts one after another.
use Rattle.std.proofs.Common.{[], ◌∷◌, rules}
use Rattle.text.specs.Text.{ascii, newline}
use Rattle.putting.proofs.Laws.Buffers.{puts_fresh, puts_both, puts_then}
use Rattle.tool.specs.Texts.{no_verb_line}
use Rattle.complaints.proofs.put_no_verb.Goals as goal

pub returns : goal.returns
unfolding no_verb_line
returns c =
    let all =
    puts_fresh c.new-line.ensures (puts_then (ascii ": no such verb; fibexp help lists them") (newline ∷ []) (puts_both c.put.ensures c.put_quoted.ensures) c.put_then.ensures)
    in
    search rules

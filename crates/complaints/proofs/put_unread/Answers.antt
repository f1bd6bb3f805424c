-- `put_unread` meets its contract: its parts one after another, by what the parameter of the place is.
use Rattle.std.proofs.Common.{sym, ◌∙◌, [], ◌∷◌, ◌++◌, rules}
use Rattle.text.specs.Text.{ascii, decimal_within, decimal, newline}
use Rattle.putting.proofs.Laws.Buffers.{puts_fresh, puts_both, puts_then}
use Rattle.tool.specs.Texts.{listed, variants_text, unread_text, unread_line}
use Rattle.complaints.proofs.put_unread.Goals as goal

pub returns-then-is_variant : goal.returns-then-is_variant
unfolding unread_text unread_line variants_text listed decimal decimal_within
returns-then-is_variant c =
    let word = puts_both c.put.ensures c.put_quoted.ensures in
    let all = puts_fresh c.new-line.ensures (puts_then (ascii ": no variant; " ++ variants_text) (newline ∷ []) word c.put_then.ensures) in
    rw (sym c.is_variant.ensures ∙ c.if-is_variant.true) (search rules)

pub returns : goal.returns
unfolding unread_text unread_line
returns c =
    let last = decimal c.args.verb.largest in
    let text = ascii ": not a whole number from 0 to " in
    let word = puts_both c.put.ensures c.put_quoted.ensures in
    let all = puts_fresh c.new-line.ensures (puts_then (text ++ last) (newline ∷ []) word (puts_then last (newline ∷ []) c.put-2.ensures c.put_number_then.ensures)) in
    rw (sym c.is_variant.ensures ∙ c.if-is_variant.false) (search rules)

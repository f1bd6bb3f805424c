-- `put_escaped` meets its contract: a plain byte is put as it is, any other as four.
use mathlib.Core.Path.{sym, ◌∙◌}
use Rattle.text.proofs.Laws.Quoting.{escaped_plain, escaped_else}
use Rattle.quoting.proofs.put_escaped.Goals as goal

pub returns-then-is_plain : goal.returns-then-is_plain
returns-then-is_plain c =
    rw (escaped_plain _ (sym c.is_plain.ensures ∙ c.if-is_plain.true)) c.put_byte.ensures

pub returns : goal.returns
returns c =
    rw
    (escaped_else _ (sym c.is_plain.ensures ∙ c.if-is_plain.false), ← c.hex_digit.ensures, ← c.hex_digit-2.ensures)
    c.put.ensures

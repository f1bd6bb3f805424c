-- `put_action` meets its contract: its words, one after another; a register is below ten, so its last digit is all of it.
use Rattle.std.proofs.Common.{ℕ, ◌%◌, ◌<◌, List, [], ◌∷◌, ◌++◌, arith}
use Rattle.text.specs.Text.{decimal}
use Rattle.text.proofs.Laws.Decimal.{one_digit}
use Rattle.putting.specs.declared.Buffer.{Buffer}
use Rattle.putting.specs.Buffers.{Puts}
use Rattle.putting.proofs.Laws.Buffers.{puts_both}
use Rattle.putting.proofs.Laws.Lines.{puts_word, puts_last}
use Rattle.listing_lines.proofs.put_action.Goals as goal

-- a register and the byte behind it
register : {a b c : Buffer} (i byte : ℕ) → i < 4 → Puts a (decimal (i % 10)) b → Puts b (byte ∷ []) c → Puts a (decimal i ++ byte ∷ []) c
register i byte h digit behind = rw (one_digit i (omega arith)) (puts_both digit behind)

pub returns : goal.returns
returns c =
    let pair = c.requires in
    puts_word _ _ _ c.put_then.ensures
    (puts_word _ _ _ (register _ _ pair.target_is_one c.put_digit.ensures c.put_byte.ensures)
    (puts_last _ (register _ _ pair.source_is_one c.put_digit-2.ensures c.put_byte-2.ensures)))

-- `parse_number` meets its contract: a text that begins with `0x` is read from its third byte on.
use Rattle.std.proofs.Common.{arith}
use Rattle.text.proofs.Laws.Digits.{hexadecimal_prefix, number_hexadecimal, number_decimal}
use Rattle.parsing.proofs.parse_number.Goals as goal

pub returns-in-Some : goal.returns-in-Some
returns-in-Some c = grind (arith, hexadecimal_prefix c.args.text.now, number_hexadecimal)

pub returns-in-None : goal.returns-in-None
returns-in-None c = grind (arith, hexadecimal_prefix c.args.text.now, number_decimal)

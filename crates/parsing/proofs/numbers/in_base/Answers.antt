-- `numbers::in_base` meets its contract: with some digits read, the text comes to what its rest does behind their number.
use Rattle.std.proofs.Common.{arith}
use Rattle.text.proofs.Laws.Digits.{base_some, base_none, number_end, number_most, drop_none, drop_some}
use Rattle.std.proofs.lemmas.Grind.{common_steps}
use Rattle.parsing.proofs.numbers.in_base.Goals as goal

pub returns-then-is_empty : goal.returns-then-is_empty
returns-then-is_empty c = grind (arith, base_none)

pub loop-byte-init : goal.loop-byte-init
loop-byte-init c = grind (arith, base_some)

pub returns-in_err-n : goal.returns-in_err-n
returns-in_err-n c = grind (arith, drop_none)

pub loop-byte-preserved : goal.loop-byte-preserved
loop-byte-preserved c = grind (arith, drop_some, number_most)

pub returns : goal.returns
returns c = grind (arith, common_steps, number_end)

-- `put_digit` meets its contract: below ten a number is one digit.
use Rattle.text.proofs.Laws.Decimal.{last_digit}
use Rattle.putting.proofs.Buffer.put_digit.Goals as goal

pub returns : goal.returns
returns c = rw last_digit c.put_byte.ensures

-- `none` meets its contract: a line of one word.
use Rattle.std.proofs.Common.{refl, arith}
use Rattle.text.specs.Text.{line}
use Rattle.meanings.proofs.none.Goals as goal

pub returns : goal.returns
unfolding line
returns c = record { status = refl; text = c.put.ensures; short = omega arith }

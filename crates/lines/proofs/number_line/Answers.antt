-- `number_line` meets its contract: a line of one word is the word and byte 10, and a 64-bit number has at most 20 digits.
use Rattle.std.proofs.Common.{arith}
use Rattle.text.specs.Text.{line}
use Rattle.lines.proofs.Laws.Numbers.{number_short}
use Rattle.lines.proofs.number_line.Goals as goal

pub returns : goal.returns
unfolding line
returns c = record {
  put = c.put_number_then.ensures;
  short = number_short c.args.n (omega (arith, c.ranges.n));
}

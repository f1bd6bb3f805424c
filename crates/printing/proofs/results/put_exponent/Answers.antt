-- `results::put_exponent` meets its contract: the number, then the byte; a number of 64 bits with its sign has at most 20 digits.
use Rattle.putting.proofs.Laws.Buffers.{puts_both}
use Rattle.machine.proofs.Laws.Sums.{from_bits}
use Rattle.tool.proofs.Laws.Parts.{whole_short}
use Rattle.printing.proofs.results.put_exponent.Goals as goal

pub returns : goal.returns
returns c =
    let n = c.args.n in
    let small = c.ranges.n.sfits in
    record {
      put = puts_both (rw (from_bits n small) at c.put_whole.ensures) c.put_byte.ensures;
      short = whole_short n small;
    }

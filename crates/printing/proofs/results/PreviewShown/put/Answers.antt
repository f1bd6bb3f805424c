-- `put` of a `Preview` meets its contract: the registers on a line, then the counts.
use Rattle.std.proofs.Common.{length-append, arith}
use Rattle.text.specs.Text.{numbers_line}
use Rattle.putting.proofs.Laws.Buffers.{puts_both}
use Rattle.sequencer.specs.Previews.{shown_of}
use Rattle.printing.proofs.results.PreviewShown.put.Goals as goal

pub returns : goal.returns
returns c =
    let w = shown_of c.args.self in
    record {
      put = puts_both c.numbers_line.ensures.put c.numbers_line-2.ensures.put;
      short = omega (arith, c.numbers_line.ensures.short, c.numbers_line-2.ensures.short, length-append (numbers_line w.registers) (numbers_line w.counts));
    }

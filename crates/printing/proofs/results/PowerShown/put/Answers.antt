-- `put` of a `Power` meets its contract: register 1 on a line, then the record.
use Rattle.std.proofs.Common.{length-append, arith}
use Rattle.text.specs.Text.{number_line}
use Rattle.putting.proofs.Laws.Buffers.{puts_both}
use Rattle.machine.specs.Machine.{reg}
use Rattle.sequencer.specs.Records.{record_of}
use Rattle.tool.specs.Texts.{record_line}
use Rattle.printing.proofs.results.PowerShown.put.Goals as goal

pub returns : goal.returns
returns c =
    let s = record_of c.args.self.state in
    record {
      put = puts_both c.number_line.ensures.put c.put_record.ensures.put;
      short = omega (arith, c.number_line.ensures.short, c.put_record.ensures.short, length-append (number_line (reg s.registers 1)) (record_line s));
    }

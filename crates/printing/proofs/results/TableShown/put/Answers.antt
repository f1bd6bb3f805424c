-- `put` of a `Table` meets its contract: a line for each row, one after another, each short.
use Rattle.machine.specs.Exponents.{exponents_of}
use Rattle.putting.proofs.Laws.Buffers.{puts_both}
use Rattle.tool.specs.Texts.{exponents_line}
use Rattle.tool.proofs.Laws.Parts.{lines_short}
use Rattle.printing.proofs.results.TableShown.put.Goals as goal

pub returns : goal.returns
returns c =
    let x = c.args.self in
    let of_c = c.put_row.ensures in
    let of_d = c.put_row-2.ensures in
    let of_e = c.put_row-3.ensures in
    let of_f = c.put_row-4.ensures in
    record {
      put = puts_both (puts_both (puts_both of_c.put of_d.put) of_e.put) of_f.put;
      short =
          lines_short (exponents_line (exponents_of x.c)) (exponents_line (exponents_of x.d)) (exponents_line (exponents_of x.e)) (exponents_line (exponents_of x.f))
          of_c.short of_d.short of_e.short of_f.short;
    }

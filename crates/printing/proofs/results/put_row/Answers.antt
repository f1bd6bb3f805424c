-- `results::put_row` meets its contract: a line of four words, each of at most 21 bytes; a field's number comes back from its bits.
use Rattle.std.proofs.Common.{◌<◌, ◌^◌, arith}
use lib.Signed.{mag}
use Rattle.text.specs.Text.{whole}
use Rattle.putting.proofs.Laws.Lines.{puts_word, puts_last}
use Rattle.tool.proofs.Laws.Parts.{four_short}
use Rattle.machine.proofs.Laws.Sums.{from_bits}
use Rattle.printing.proofs.results.put_row.Goals as goal

pub returns : goal.returns
returns c =
    let x = c.args.row in
    let c_fits : mag x.c < 2 ^ 63 = omega arith in
    let d_fits : mag x.d < 2 ^ 63 = omega arith in
    let e_fits : mag x.e < 2 ^ 63 = omega arith in
    let f_fits : mag x.f < 2 ^ 63 = omega arith in
    let of_c = rw (from_bits x.c c_fits) at c.put_exponent.ensures in
    let of_d = rw (from_bits x.d d_fits) at c.put_exponent-2.ensures in
    let of_e = rw (from_bits x.e e_fits) at c.put_exponent-3.ensures in
    let of_f = rw (from_bits x.f f_fits) at c.put_exponent-4.ensures in
    record {
      put = puts_word (whole x.c) _ _ of_c.put (puts_word (whole x.d) _ _ of_d.put (puts_word (whole x.e) _ _ of_e.put (puts_last (whole x.f) of_f.put)));
      short = four_short x.c x.d x.e x.f of_c.short of_d.short of_e.short of_f.short;
    }

-- `rows` meets its contract: each row has what the columns have there; what a field holds comes back from its bits.
use mathlib.Core.Path.{◌∙◌}
use native.Mathlib.Omega.{arith}
use Rattle.machine.proofs.Laws.Sums.{four_from_bits}
use Rattle.columns.proofs.rows.Goals as goal

pub returns : goal.returns
returns c =
    let x = c.args in
    let row0 = c.row.ensures ∙ four_from_bits x.first.c x.second.c x.third.c x.fourth.c (omega arith) (omega arith) (omega arith) (omega arith) in
    let row1 = c.row-2.ensures ∙ four_from_bits x.first.d x.second.d x.third.d x.fourth.d (omega arith) (omega arith) (omega arith) (omega arith) in
    let row2 = c.row-3.ensures ∙ four_from_bits x.first.e x.second.e x.third.e x.fourth.e (omega arith) (omega arith) (omega arith) (omega arith) in
    let row3 = c.row-4.ensures ∙ four_from_bits x.first.f x.second.f x.third.f x.fourth.f (omega arith) (omega arith) (omega arith) (omega arith) in
    cc (row0, row1, row2, row3)

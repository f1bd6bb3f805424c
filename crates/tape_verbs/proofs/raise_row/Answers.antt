-- `raise_row` meets its contract: where the service answers, the row has what is shown, and as many numbers as before.
use mathlib.Core.Path.{refl}
use native.Mathlib.Omega.{arith}
use Rattle.std.proofs.Common.{rules}
use Rattle.putting.proofs.Laws.Buffers.{puts_fresh}
use Rattle.tape_verbs.proofs.raise_row.Goals as goal

pub returns-in-Err : goal.returns-in-Err
returns-in-Err c =
    let raise = c.raise in
    rw (← raise.ensures.result_value, c.in-Err.is, ← c.from.ensures)
    c.refuse.ensures

pub returns-in-Ok : goal.returns-in-Ok
returns-in-Ok c =
    let line = puts_fresh c.new-line.ensures c.numbers_line.ensures.put in
    rw (← c.raise.ensures.result_value, c.in-Ok.is, ← c.raise.ensures.bases_after)
    (record { status = refl; text = search rules; short = omega (arith, c.numbers_line.ensures.short, c.raise.auto.bases, c.requires) })

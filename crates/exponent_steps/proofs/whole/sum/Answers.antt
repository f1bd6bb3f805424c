-- `whole::sum` meets its contract: a number in the range is an i64, so what is none is not in it.
use Rattle.machine.proofs.Laws.Sums.{from_bits, range_fits}
use Rattle.exponent_steps.proofs.whole.sum.Goals as goal

pub returns-in_err-checked_add : goal.returns-in_err-checked_add
returns-in_err-checked_add c =
    let none = rw (from_bits _ c.ranges.x.sfits, from_bits _ c.ranges.y.sfits) at c.in_err-checked_add.ensures in
    rw c.from_residual.ensures (λ r. none (range_fits _ r))

-- `rows::multiply_rows` meets its contract: a turn multiplies the two rows in one lane more.
use Prim.Native.Nat.{◌-◌, ◌≤◌}
use Rattle.lanes.specs.Inner.Lanes.{Multiplied}
use Rattle.lanes.proofs.rows.multiply_rows.Given as goal

abbrev pub invariant-loop-j : goal.invariant-loop-j
invariant-loop-j l = (l.j ≤ l.count) × Multiplied l.m l.t l.a l.b l.j l.initial.rows l.rows

abbrev pub decreases-loop-j : goal.decreases-loop-j
decreases-loop-j l = l.count - l.j

-- `rows::exchange_rows` meets its contract: a turn exchanges the two rows in one lane more.
use Prim.Native.Nat.{◌-◌, ◌≤◌}
use Rattle.lanes.specs.Inner.Lanes.{Exchanged}
use Rattle.lanes.proofs.rows.exchange_rows.Given as goal

abbrev pub invariant-loop-j : goal.invariant-loop-j
invariant-loop-j l = (l.j ≤ l.count) × Exchanged l.t l.s l.j l.initial.rows l.rows

abbrev pub decreases-loop-j : goal.decreases-loop-j
decreases-loop-j l = l.count - l.j

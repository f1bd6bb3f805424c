-- `PrimeDivisors::push` meets its contract: the list is the front of the row, whose next entry is the prime.
use Rattle.std.proofs.Common.{◌<◌, length, ap, ◌∙◌, arith, add-one, length-set, length-take-le}
use Rattle.std.proofs.Math.Seq.{take-suc-set}
use Rattle.refusal.proofs.Laws.Zeros.{zeros_more}
use Rattle.orders.proofs.PrimeDivisors.push.Goals as goal
use Rattle.orders.proofs.PrimeDivisors.push.Goals.{After-self}

-- a list of less than 32 leaves room
room : (c : After-self) → c.self.inside.count < 32
room c =
    let front = length-take-le c.self.inside.count c.self.inside.row (omega (arith, c.self.invariant.0, c.self.told)) in
    omega (arith, front, ap length c.self.view_is, c.requires)

pub bounds-self-inside-self-inside : goal.bounds-self-inside-self-inside
bounds-self-inside-self-inside c = room (goal.at.bounds-self-inside-self-inside c).After-self

pub offset_bounds-self-inside-self-inside : goal.offset_bounds-self-inside-self-inside
offset_bounds-self-inside-self-inside c = omega (arith, room (goal.at.offset_bounds-self-inside-self-inside c).After-self)

pub overflow_add-self : goal.overflow_add-self
overflow_add-self c = omega (arith, room (goal.at.overflow_add-self c).After-self)

pub invariant_of-self : goal.invariant_of-self
invariant_of-self c =
    let held = c.self.invariant in
    (omega (arith, room (goal.at.invariant_of-self c).After-self), length-set _ _ _ ∙ held.1, zeros_more _ _ _ held.2 _)

pub returns : goal.returns
returns c = rw (← c.self.view_is, add-one) (take-suc-set c.self.inside.row c.self.inside.count c.args.prime (omega (arith, c.self.told, room (goal.at.returns c).After-self)))

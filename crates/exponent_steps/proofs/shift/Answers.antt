-- `shift` meets its contract: a mul or a div sets the number that it makes, if it is in the range, and a swp sets two.
use mathlib.Core.Path.{◌∙◌}
use Rattle.tape.specs.Inner.Operations.{step_by}
use Rattle.machine.proofs.Laws.Sums.{from_bits, mul_makes, div_makes, swp_done}
use Rattle.exponent_steps.proofs.Laws.Arms.{arm}
use Rattle.exponent_steps.proofs.shift.Goals as goal

pub returns-in-Mul : goal.returns-in-Mul
unfolding step_by
returns-in-Mul c =
    let x = c.exponent-x in
    let y = c.exponent-y in
    let op = c.args.op in
    let made = rw (from_bits _ x.type_inv, from_bits _ y.type_inv) at c.sum.ensures in
    let makes = mul_makes (step_by op.opcode op.target op.source) _ op.target op.source _ _ x.ensures y.ensures (rw c.in-Mul.is) in
    let done = arm _ _ _ _ _ _ makes _ made c.set_made.ensures.value c.set_made.ensures.exponents_after in
    record { value = done.value; exponents_after = done.exponents_after }

pub returns-in-Div : goal.returns-in-Div
unfolding step_by
returns-in-Div c =
    let x = c.exponent-x in
    let y = c.exponent-y in
    let op = c.args.op in
    let made = rw (from_bits _ x.type_inv, from_bits _ y.type_inv) at c.difference.ensures in
    let makes = div_makes (step_by op.opcode op.target op.source) _ op.target op.source _ _ x.ensures y.ensures (rw c.in-Div.is) in
    let done = arm _ _ _ _ _ _ makes _ made c.set_made-in-Div.ensures.value c.set_made-in-Div.ensures.exponents_after in
    record { value = done.value; exponents_after = done.exponents_after }

pub returns-in-Swp : goal.returns-in-Swp
unfolding step_by
returns-in-Swp c =
    let x = c.exponent-x in
    let y = c.exponent-y in
    let op = c.args.op in
    let both = swp_done (step_by op.opcode op.target op.source) c.args.exponents.now _ _ _ _ x.ensures y.ensures c.set_exponent.new.exponents c.set_exponent-in-Swp.new.exponents (rw c.in-Swp.is)
    (c.set_exponent.ensures ∙ rw (from_bits _ y.type_inv)) (c.set_exponent-in-Swp.ensures ∙ rw (from_bits _ x.type_inv)) in
    record { value = both.0; exponents_after = both.1 }

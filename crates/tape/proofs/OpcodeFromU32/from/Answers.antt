-- An opcode is made of a number as the definition says, case by case.
use Rattle.std.proofs.Common.{◌≡◌, sym, arith}
use Rattle.tape.specs.Inner.Operations.{opcode_of}
use Rattle.tape.proofs.Laws.Shapes.{exchanges}
use Rattle.tape.proofs.OpcodeFromU32.from.Goals as goal

pub returns-then-number-gt1 : goal.returns-then-number-gt1
returns-then-number-gt1 c = sym (exchanges c.args.number c.if-number-gt1.true)

pub returns-then-number-eq1 : goal.returns-then-number-eq1
unfolding opcode_of
returns-then-number-eq1 c = rw c.if-number-eq1.true

pub returns : goal.returns
unfolding opcode_of
returns c = let zero : c.args.number ≡ 0 = omega (arith, c.if-number-gt1.false, c.if-number-eq1.false) in rw zero

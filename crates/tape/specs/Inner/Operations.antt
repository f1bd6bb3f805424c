-- A step by its opcode, so that code can choose what it does apart from where it does it.
use Rattle.std.specs.Prelude.{List, map, ℕ, zero, suc, ◌-◌, ◌/◌, ◌%◌}
use Rattle.tape.specs.declared.Step.{Step}
use Rattle.tape.specs.declared.Step.TheVariants.{Mul, Div, Swp}
use Rattle.tape.specs.declared.Opcode.{Opcode}
use Rattle.tape.specs.declared.Opcode.TheVariants.{Mul as ByMul, Div as ByDiv, Swp as BySwp}
use Rattle.tape.specs.declared.Operation.{Operation}
use Rattle.tape.specs.Words.{kind_of}

-- the step with an opcode and two registers
unfoldable pub step_by : Opcode → ℕ → ℕ → Step
step_by ByMul t s = Mul t s
step_by ByDiv t s = Div t s
step_by BySwp t s = Swp t s

-- the opcode of a number: 0 multiplies, 1 divides, 2 and above exchange
unfoldable pub opcode_of : ℕ → Opcode
opcode_of zero = ByMul
opcode_of (suc zero) = ByDiv
opcode_of (suc (suc n)) = BySwp

-- the step that a word has in its digits, whatever else it has: a step's word has its meaning there (`raw_steps_lem` of proofs/Laws/Rows)
unfoldable pub raw_step : ℕ → Step
raw_step w = step_by (opcode_of (kind_of w - 5)) (w % 4) (w / 4 % 4)

abbrev pub raw_steps : List ℕ → List Step
raw_steps words = map raw_step words

abbrev pub step_for : Operation → Step
step_for op = step_by op.opcode op.target op.source

-- The kind of a step by its opcode, as code that counts asks for it.
use Rattle.std.specs.Prelude.{Bool}
use Rattle.tape.specs.declared.Step.{Step}
use Rattle.tape.specs.declared.Opcode.{Opcode}
use Rattle.tape.specs.declared.Opcode.TheVariants.{Mul as ByMul, Div as ByDiv, Swp as BySwp}
use Rattle.machine.specs.Ways.{is_mul, is_div, is_swp}

-- whether a step has an opcode, as `step_by` has them
unfoldable pub is_kind : Opcode → Step → Bool
is_kind ByMul x = is_mul x
is_kind ByDiv x = is_div x
is_kind BySwp x = is_swp x

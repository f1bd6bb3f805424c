-- `inverse_operation` meets its contract: what the table has for each opcode undoes its step.
use Rattle.std.proofs.Common.{◌≡◌, refl, ℕ, [], ◌∷◌, slice_index_or}
use denote.Enum.Enum.{tag}
use denote.Enum.Declared.{intoss}
use denote.Struct.Field.{rows}
use Rattle.tape.specs.contracts.Opcode.{as_values}
use Rattle.tape.specs.declared.Opcode.{Opcode}
use Rattle.tape.specs.declared.Opcode.TheVariants.{Mul as ByMul, Div as ByDiv, Swp as BySwp}
use Rattle.tape.specs.Inner.Operations.{step_by}
use Rattle.machine.specs.Machine.{inverse_step}
use Rattle.register_steps.proofs.inverse_operation.Goals as goal

undone : (o : Opcode) (t s : ℕ)
    → step_by (slice_index_or (ByDiv ∷ ByMul ∷ BySwp ∷ []) (tag (rows [] ∷ rows [] ∷ rows [] ∷ []) (intoss ([] ∷ [] ∷ [] ∷ []) (as_values o))) ByMul) t s
    ≡ inverse_step (step_by o t s)
unfolding step_by inverse_step
undone ByMul t s = refl
undone ByDiv t s = refl
undone BySwp t s = refl

pub returns : goal.returns
returns c = undone c.args.op.opcode c.args.op.target c.args.op.source

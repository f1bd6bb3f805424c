-- `directed` meets its contract by the two directions.
use mathlib.Core.Path.{ap, ◌∙◌}
use Rattle.machine.specs.Machine.{inverse_step}
use Rattle.register_steps.proofs.directed.Goals as goal

pub returns-then-undone : goal.returns-then-undone
returns-then-undone c =
    c.inverse_operation.ensures ∙ ap inverse_step c.operation_of.ensures ∙ rw c.if-undone.true

pub returns : goal.returns
returns c = c.operation_of-2.ensures ∙ rw c.if-undone.false

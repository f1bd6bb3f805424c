-- `steps::operation_of` meets its contract: the digits are those of the definition.
use Rattle.tape.specs.Inner.Operations.{raw_step}
use Rattle.decoding.proofs.steps.operation_of.Goals as goal

pub returns : goal.returns
unfolding raw_step
returns c = rw (c.from.ensures, c.saturating_sub.ensures)

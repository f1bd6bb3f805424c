-- `put_step` meets its contract: behind the step's number each arm writes the name of its step and the registers.
use mathlib.Core.Path.{subst}
use Rattle.tape.specs.Steps.{Sound}
use Rattle.putting.proofs.Laws.Buffers.{puts_both}
use Rattle.putting.proofs.Laws.Lines.{puts_word}
use Rattle.listing_lines.proofs.put_step.Goals as goal

pub put_action-requires : goal.put_action-requires
put_action-requires c = subst Sound c.in-Mul.is c.requires

pub put_action-requires-in-Div : goal.put_action-requires-in-Div
put_action-requires-in-Div c = subst Sound c.in-Div.is c.requires

pub put_action-requires-in-Swp : goal.put_action-requires-in-Swp
put_action-requires-in-Swp c = (subst Sound c.in-Swp.is c.requires).0

pub returns-in-Mul : goal.returns-in-Mul
returns-in-Mul c =
    rw c.in-Mul.is (puts_word _ _ _ (puts_both c.put_count.ensures c.put_byte.ensures) c.put_action.ensures)

pub returns-in-Div : goal.returns-in-Div
returns-in-Div c =
    rw c.in-Div.is (puts_word _ _ _ (puts_both c.put_count.ensures c.put_byte.ensures) c.put_action-in-Div.ensures)

pub returns-in-Swp : goal.returns-in-Swp
returns-in-Swp c =
    rw c.in-Swp.is (puts_word _ _ _ (puts_both c.put_count.ensures c.put_byte.ensures) c.put_action-in-Swp.ensures)

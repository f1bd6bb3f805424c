-- `row::multiply_register` meets its contract: what it reads is the register that it sets.
use mathlib.Core.Path.{◌∙◌}
use Rattle.register_steps.proofs.row.multiply_register.Goals as goal

pub returns : goal.returns
returns c =
    c.set_register.ensures ∙ rw (c.multiply-x.ensures, c.register.ensures)

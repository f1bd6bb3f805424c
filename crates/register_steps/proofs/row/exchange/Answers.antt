-- `row::exchange` meets its contract: both registers are read before one is set.
use mathlib.Core.Path.{◌∙◌}
use Rattle.register_steps.proofs.row.exchange.Goals as goal

pub returns : goal.returns
returns c =
    c.set_register-2.ensures
    ∙ rw (c.set_register.ensures, c.register-x.ensures, c.register-y.ensures)

-- `step_lanes` meets its contract: an exchange of the registers' rows and of their inverses', or a product of both.
use Rattle.lanes.proofs.Laws.Steps.{exchanged, divided, multiplied}
use Rattle.lanes.proofs.step_lanes.Goals as goal

pub returns-in-Mul : goal.returns-in-Mul
returns-in-Mul c = multiplied _ _ _ _ _ c.requires.1 c.requires.0.few c.in-Mul.is c.multiply_rows.ensures

pub returns-in-Div : goal.returns-in-Div
returns-in-Div c = divided _ _ _ _ _ c.requires.1 c.requires.0.few c.in-Div.is c.multiply_rows-in-Div.ensures

pub returns-in-Swp : goal.returns-in-Swp
returns-in-Swp c = exchanged _ _ _ _ _ c.requires.1 c.requires.0.few _ c.in-Swp.is c.exchange_rows.ensures c.exchange_rows-in-Swp.ensures

-- `step_meaning` meets its contract: each kind of step by its name.
use Rattle.meanings.proofs.step_meaning.Goals as goal

pub returns-in-Mul : goal.returns-in-Mul
returns-in-Mul c = rw c.in-Mul.is c.two.ensures

pub returns-in-Div : goal.returns-in-Div
returns-in-Div c = rw c.in-Div.is c.two-in-Div.ensures

pub returns-in-Swp : goal.returns-in-Swp
returns-in-Swp c = rw c.in-Swp.is c.two-in-Swp.ensures

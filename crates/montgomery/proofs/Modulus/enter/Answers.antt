-- `enter` meets its contract by its definition.
use Rattle.montgomery.specs.Inner.Forms.{enter}
use Rattle.montgomery.proofs.Modulus.enter.Goals as goal

pub returns : goal.returns
unfolding enter
returns c = c.multiply.ensures

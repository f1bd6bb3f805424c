-- `leave` meets its contract by its definition.
use Rattle.montgomery.specs.Inner.Forms.{leave}
use Rattle.montgomery.proofs.Modulus.leave.Goals as goal

pub returns : goal.returns
unfolding leave
returns c = c.reduced.ensures

-- `forms::unset` meets its contract: a form of no places is zeros alone.
use Rattle.std.proofs.Common.{refl}
use Rattle.fibonacci.specs.Forms.{pad, ones}
use Rattle.building.proofs.forms.unset.Goals as goal

pub returns : goal.returns
unfolding pad ones
returns c = refl

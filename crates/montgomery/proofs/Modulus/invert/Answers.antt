-- `invert` meets its contract: out of the form, inverted and into it.
use mathlib.Core.Path.{◌∙◌}
use Rattle.montgomery.specs.Inner.Forms.{form_inverse}
use Rattle.montgomery.proofs.Modulus.invert.Goals as goal

pub returns : goal.returns
unfolding form_inverse
returns c =
    c.enter.ensures ∙ rw (c.inverse_or_zero.ensures, c.leave.ensures)

-- `exponent_inverse` meets its contract: what is not below r is refused, and of the rest exactly those have an inverse that share no factor with r.
use Rattle.std.proofs.Common.{◌∙◌, arith}
use Rattle.modular.proofs.Laws.Inverses.{exponent_past, exponent_below}
use Rattle.modular.proofs.exponent_inverse.Goals as goal

pub returns-then-r-k : goal.returns-then-r-k
returns-then-r-k c = exponent_past _ _ c.if-r-k.true

pub returns : goal.returns
returns c = c.inverse_of.ensures ∙ exponent_below _ _ (omega arith)

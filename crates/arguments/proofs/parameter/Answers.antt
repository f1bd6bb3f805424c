-- `parameter` meets its contract: the definition's own test tells a variant from a number.
use mathlib.Core.Path.{sym, ◌∙◌}
use Rattle.tool.specs.Verbs.{parameter_in}
use Rattle.arguments.proofs.parameter.Goals as goal

pub returns-then-is_variant : goal.returns-then-is_variant
unfolding parameter_in
returns-then-is_variant c = rw (sym c.is_variant.ensures ∙ c.if-is_variant.true) c.variant.ensures

pub returns : goal.returns
unfolding parameter_in
returns c = rw (sym c.is_variant.ensures ∙ c.if-is_variant.false) c.parse_number.ensures

-- `whole::set_exponent` meets its contract: past the last setting changes nothing.
use mathlib.Core.Path.{sym}
use lib.Seq.{set_out}
use Rattle.exponent_steps.proofs.whole.set_exponent.Goals as goal

pub returns-else-at-exponents : goal.returns-else-at-exponents
returns-else-at-exponents c = sym (set_out _ _ _ c.if-at-exponents.false)

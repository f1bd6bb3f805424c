-- `row::set_register` meets its contract: past the last setting changes nothing.
use mathlib.Core.Path.{sym}
use lib.Seq.{set_out}
use Rattle.register_steps.proofs.row.set_register.Goals as goal

pub returns-else-at-values : goal.returns-else-at-values
returns-else-at-values c = sym (set_out _ _ _ c.if-at-values.false)

-- `values::parameter` meets its contract: past the last parameter stands 0.
use mathlib.Core.Path.{sym}
use lib.ListN.{get_or-eq_default}
use Rattle.tape_verbs.proofs.values.parameter.Goals as goal

pub returns-then-values-place : goal.returns-then-values-place
returns-then-values-place c = sym (get_or-eq_default c.args.values.now 0 c.if-values-place.true)

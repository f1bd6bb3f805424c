-- `steps::kinds_of` meets its contract: each return is a case of the definition by its tests.
use mathlib.Core.Path.{sym}
use native.Mathlib.Nat.{le_antisymm}
use Rattle.tape.proofs.Laws.Shapes.{kinds_below, kinds_above, kinds_none}
use Rattle.decoding.proofs.steps.kinds_of.Goals as goal

pub returns-then-target-source : goal.returns-then-target-source
returns-then-target-source c = sym (kinds_below _ _ c.if-target-source.true)

pub returns-then-source-target : goal.returns-then-source-target
returns-then-source-target c = sym (kinds_above _ _ c.if-source-target.true)

pub returns : goal.returns
returns c = sym (kinds_none _ _ (le_antisymm c.if-source-target.false c.if-target-source.false))

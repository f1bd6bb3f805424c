-- `between` meets its contract by the order of the positions.
use mathlib.Core.Path.{◌∙◌}
use borrow.Author.Tests.{lt-ltb, le-ltb}
use Rattle.sequencer.specs.Inner.Runs.{between}
use Rattle.running.proofs.between.Goals as goal

pub returns-then-j-i : goal.returns-then-j-i
unfolding between
returns-then-j-i c = c.part.ensures ∙ rw (lt-ltb _ _ c.if-j-i.true)

pub returns : goal.returns
unfolding between
returns c = c.part-2.ensures ∙ rw (le-ltb _ _ c.if-j-i.false)

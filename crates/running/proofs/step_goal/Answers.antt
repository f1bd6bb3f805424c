-- `step_goal` meets its contract: a return for each case of the definition.
use native.Mathlib.Numerals.{add-one}
use borrow.Author.Tests.{lt-ltb, le-ltb}
use Rattle.sequencer.specs.Inner.Goals.{step_goal}
use Rattle.running.proofs.step_goal.Goals as goal

pub returns-then-position-gt0 : goal.returns-then-position-gt0
unfolding step_goal
returns-then-position-gt0 c = rw (c.if-backward.true, lt-ltb _ _ c.if-position-gt0.true)

pub returns-then-backward : goal.returns-then-backward
unfolding step_goal
returns-then-backward c = rw (c.if-backward.true, le-ltb _ _ c.if-position-gt0.false)

pub returns-then-position-lt-NO_POSITION : goal.returns-then-position-lt-NO_POSITION
unfolding step_goal
returns-then-position-lt-NO_POSITION c = rw (c.if-backward.false, lt-ltb _ _ c.if-position-lt-NO_POSITION.true, add-one)

pub returns : goal.returns
unfolding step_goal
returns c = rw (c.if-backward.false, le-ltb _ _ c.if-position-lt-NO_POSITION.false)

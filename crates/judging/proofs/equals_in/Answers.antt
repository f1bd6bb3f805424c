-- `equals_in` meets its contract: with i places passed, the equals sign stands so far past i as it does in what is left.
use mathlib.Core.Path.{◌≡◌, sym, ◌∙◌}
use native.Mathlib.Omega.{arith}
use Rattle.scripting.proofs.Laws.Equals.{equals_here, equals_next, equals_nowhere}
use lib.ListN.{drop}
use Rattle.scripting.specs.Script.{equals_in}
use Rattle.judging.proofs.equals_in.Goals as goal

pub loop-i-init : goal.loop-i-init
loop-i-init c = (omega arith, omega arith)

pub is_equals-requires : goal.is_equals-requires
is_equals-requires c = c.loop-i-test.true

pub returns-then-is_equals : goal.returns-then-is_equals
returns-then-is_equals c = let none : equals_in (drop c.loop-i.i c.args.line.now) ≡ 0 = equals_here c.args.line.now c.loop-i.i c.loop-i-test.true (sym c.is_equals.ensures ∙ c.if-is_equals.true) in
    omega (arith, none, c.loop-i.invariant.1)

pub overflow_add-i : goal.overflow_add-i
overflow_add-i c = omega arith

pub loop-i-smaller : goal.loop-i-smaller
loop-i-smaller c = omega arith

pub loop-i-preserved : goal.loop-i-preserved
loop-i-preserved c = (omega (arith, c.loop-i-test.true), c.loop-i.invariant.1 ∙ equals_next c.args.line.now c.loop-i.i c.loop-i-test.true (sym c.is_equals.ensures ∙ c.if-is_equals.false))

pub returns : goal.returns
returns c = let none : equals_in (drop c.loop-i.i c.args.line.now) ≡ 0 = equals_nowhere c.args.line.now c.loop-i.i c.loop-i-test.false in
    omega (arith, none, c.loop-i.invariant.1)

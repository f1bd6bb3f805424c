-- `is_equals` meets its contract: each return is a case of the three bytes.
use mathlib.Core.Path.{sym}
use native.Mathlib.Omega.{arith}
use Rattle.scripting.proofs.Laws.Equals.{equals_short, equals_first, equals_second, equals_third}
use Rattle.judging.proofs.is_equals.Goals as goal

pub returns-then-line-at-lt-EQUALS_BYTES : goal.returns-then-line-at-lt-EQUALS_BYTES
returns-then-line-at-lt-EQUALS_BYTES c = sym (equals_short c.args.line.now c.args.at (omega arith))

pub returns-then-line-at-ne-BLANK : goal.returns-then-line-at-ne-BLANK
returns-then-line-at-ne-BLANK c = sym (equals_first c.args.line.now c.args.at c.if-line-at-ne-BLANK.true)

pub returns-then-line-at-ne-EQUALS : goal.returns-then-line-at-ne-EQUALS
returns-then-line-at-ne-EQUALS c = sym (equals_second c.args.line.now c.args.at c.if-line-at-ne-BLANK.false c.if-line-at-ne-EQUALS.true)

pub returns : goal.returns
returns c = sym (equals_third c.args.line.now c.args.at c.if-line-at-ne-BLANK.false (omega (arith, c.if-line-at-lt-EQUALS_BYTES.false, c.requires)) c.if-line-at-ne-EQUALS.false)

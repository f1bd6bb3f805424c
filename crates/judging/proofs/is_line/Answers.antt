-- `is_line` meets its contract: each return is a case of the lengths, the last byte and the bytes in front of it.
use mathlib.Core.Path.{sym}
use native.Mathlib.Omega.{arith}
use lib.ListN.{length}
use lib.Seq.{length-take-le}
use Rattle.scripting.proofs.Laws.Verdicts.{line_length, line_end, line_same}
use Rattle.judging.proofs.is_line.Goals as goal

pub returns-then-text-length : goal.returns-then-text-length
returns-then-text-length c = sym (line_length c.args.text.now c.args.line.now (λ e. omega (arith, e, c.if-text-length.true)))

pub returns-then-text-length-ne1 : goal.returns-then-text-length-ne1
returns-then-text-length-ne1 c = sym (line_length c.args.text.now c.args.line.now (λ e. c.if-text-length-ne1.true (omega (arith, e))))

pub returns-then-text-length-ne-NEWLINE : goal.returns-then-text-length-ne-NEWLINE
returns-then-text-length-ne-NEWLINE c = sym (line_end c.args.text.now c.args.line.now c.if-text-length-ne-NEWLINE.true)

pub slice_bounds-same-end : goal.slice_bounds-same-end
slice_bounds-same-end c = sym (length-take-le (length c.args.line.now) c.args.text.now (omega (arith, c.if-text-length.false)))

pub returns : goal.returns
returns c = line_same c.args.text.now c.args.line.now (omega (arith, c.if-text-length-ne1.false, c.if-text-length.false)) c.if-text-length-ne-NEWLINE.false c.same.result c.same.ensures

-- `done` meets its contract: each return is a kind of line.
use mathlib.Core.Path.{◌≡◌, refl, sym, ◌∙◌}
use mathlib.Core.List.{[], ◌∷◌, ◌++◌}
use native.Mathlib.Omega.{arith}
use lib.ListN.{length-append}
use Rattle.text.specs.Text.{newline}
use Rattle.scripting.specs.Script.{equals_in, long_line}
use Rattle.scripting.proofs.Laws.Tapes.{did_print}
use Rattle.scripting.proofs.Laws.Judging.{line_long, line_copied, line_judged, line_command, did_line}
use Rattle.std.proofs.Common.{rules}
use Rattle.putting.proofs.Laws.Buffers.{puts_fresh}
use Rattle.script.proofs.whole_line.done.Goals as goal

pub returns-then-line-gt-MAX_LINE : goal.returns-then-line-gt-MAX_LINE
returns-then-line-gt-MAX_LINE c = rw (line_long _ c.args.line.now _ c.if-line-gt-MAX_LINE.true) (did_print long_line c.requires refl c.put-length.ensures (omega arith))

pub returns-then-is_copied : goal.returns-then-is_copied
returns-then-is_copied c =
    let copied = puts_fresh c.new-copy.ensures c.put_then.ensures in
    rw (line_copied _ c.args.line.now _ c.if-line-gt-MAX_LINE.false (sym c.is_copied.ensures ∙ c.if-is_copied.true))
    (did_print (c.args.line.now ++ newline ∷ []) c.requires refl (search rules) (omega (arith, c.if-line-gt-MAX_LINE.false, length-append c.args.line.now (newline ∷ []))))

pub returns-then-at-line : goal.returns-then-at-line
returns-then-at-line c = let at : c.equals_in-at.result ≡ equals_in c.args.line.now = c.equals_in-at.ensures in
    rw (line_judged _ c.args.line.now _ c.if-line-gt-MAX_LINE.false (sym c.is_copied.ensures ∙ c.if-is_copied.false) (omega (arith, at, c.if-at-line.true))) (rw at at c.judge.ensures)

pub returns : goal.returns
returns c = rw (line_command _ c.args.line.now _ c.if-line-gt-MAX_LINE.false (sym c.is_copied.ensures ∙ c.if-is_copied.false) (omega (arith, c.equals_in-at.ensures, c.if-at-line.false))) (did_line c.command.ensures)

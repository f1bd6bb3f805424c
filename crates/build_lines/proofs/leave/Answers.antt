-- `leave` meets its contract: the words stand from where the tape at hand begins, or the row has no room for them.
use mathlib.Core.Path.{refl}
use native.Mathlib.Omega.{arith}
use Rattle.scripting.proofs.Laws.Tapes.{did_full}
use Rattle.scripting.proofs.Laws.Rooms.{did_left}
use Rattle.std.proofs.Common.{rules}
use Rattle.putting.proofs.Laws.Buffers.{puts_fresh}
use Rattle.build_lines.proofs.leave.Goals as goal

pub returns-then-tapes-begin : goal.returns-then-tapes-begin
returns-then-tapes-begin c =
    did_full c.requires.inside c.args.words.now _ (omega (arith, c.if-tapes-begin.true)) refl c.put_full.ensures

pub returns : goal.returns
returns c =
    let line = puts_fresh c.new-line.ensures c.numbers_line.ensures.put in
    did_left c.requires.inside c.args.words.now _ (omega (arith, c.if-tapes-begin.false, c.requires.inside.begin, c.requires.inside.end)) c.put-end.ensures refl (search rules) (omega (arith, c.numbers_line.ensures.short, c.requires.short))

-- `show` meets its contract: the count or the refusal comes first, then the buffer, and the words that are counted are the tape at hand.
use mathlib.Core.Path.{refl, sym}
use native.Mathlib.Omega.{arith}
use lib.ListN.{take, length-append}
use lib.Seq.{length-take-le}
use Rattle.text.specs.Text.{number_line, numbers_line}
use Rattle.text.proofs.Laws.Puts.{puts_join}
use Rattle.tool.specs.Texts.{refusal_line}
use Rattle.scripting.proofs.Laws.Tapes.{did_full, did_print}
use Rattle.scripting.proofs.Laws.Rooms.{did_left}
use Rattle.std.proofs.Common.{rules}
use Rattle.putting.proofs.Laws.Buffers.{puts_fresh, puts_both}
use Rattle.build_lines.proofs.show.Goals as goal

pub returns-then-tapes-begin : goal.returns-then-tapes-begin
returns-then-tapes-begin c =
    let count = c.in-Ok.n in
    let is = c.in-Ok.is in
    rw is
    (did_full c.requires.inside (take count c.args.row.now) _ (omega (arith, c.if-tapes-begin.true, length-take-le count c.args.row.now (rw is at c.requires.counted))) refl c.put_full.ensures)

pub slice_bounds-put-end : goal.slice_bounds-put-end
slice_bounds-put-end c = sym (length-take-le c.in-Ok.n c.args.row.now (rw c.in-Ok.is at c.requires.counted))

pub returns-else-tapes-begin : goal.returns-else-tapes-begin
returns-else-tapes-begin c =
    let row = c.args.row.now in
    let lines = puts_fresh c.new-lines.ensures (puts_both c.number_line.ensures.put c.numbers_line.ensures.put) in
    rw c.in-Ok.is
    (did_left c.requires.inside (take c.in-Ok.n row) _ (omega (arith, c.if-tapes-begin.false, c.requires.inside.begin, c.requires.inside.end, length-take-le c.in-Ok.n row (rw c.in-Ok.is at c.requires.counted))) c.put-end.ensures refl (search rules)
    (omega (arith, c.number_line.ensures.short, c.numbers_line.ensures.short, c.requires.short, length-append (number_line c.in-Ok.n) (numbers_line row))))

pub returns-in-Err : goal.returns-in-Err
returns-in-Err c =
    let lines = puts_join c.refuse-next.ensures.text c.numbers_line-in-Err.ensures.put.put in
    rw (c.in-Err.is, ← c.from.ensures)
    (did_print _ c.requires.inside refl (search rules)
    (omega (arith, c.refuse-next.ensures.short, c.numbers_line-in-Err.ensures.short, c.requires.short, length-append (refusal_line c.args.own c.from.result) (numbers_line c.args.row.now))))

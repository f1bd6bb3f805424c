-- `refuse` meets its contract: its parts one after another; its length is bounded with the longest reason.
use Rattle.std.proofs.Common.{[], ◌∷◌, refl, arith, rules}
use Rattle.text.specs.Text.{newline}
use Rattle.text.specs.Rows.{Put}
use Rattle.putting.proofs.Laws.Buffers.{puts_fresh, puts_both, puts_then}
use Rattle.tool.specs.Texts.{reason_for, refusal_line}
use Rattle.tool.proofs.Laws.Lengths.{refusal_most}
use Rattle.printing.proofs.refuse.Goals as goal

pub returns : goal.returns
unfolding refusal_line
returns c =
    let own = c.args.own in
    let n = c.args.number in
    let number = puts_both (puts_both c.put.ensures c.put_number.ensures) c.put-2.ensures in
    let line : Put c.args.buffer.now 0 (refusal_line own n) c.put_reason.new.buffer.next c.put_reason.new.buffer.row.now =
    puts_fresh c.new-line.ensures (puts_then (reason_for own n) (newline ∷ []) number c.put_reason.ensures)
    in
    record { status = refl; text = search rules; short = omega (arith, refusal_most own n (omega (arith, c.ranges.number))) }

-- `put_whole` meets its contract: below 0 the minus sign and then the number behind it, else the number.
use mir.Syntax.{w64}
use mir.ValLaws.{to_z-of_z}
use Rattle.text.proofs.Laws.Wholes.{below, natural}
use Rattle.putting.proofs.Laws.Buffers.{puts_both}
use Rattle.putting.proofs.Buffer.put_whole.Goals as goal
use Rattle.putting.proofs.Buffer.put_whole.Goals.{then-n-lt0, else-n-lt0}

pub returns : goal.returns
returns c =
    let read = to_z-of_z w64 c.args.n c.ranges.n in
    let number = rw (c.unsigned_abs.ensures.value, read) at c.put_number.ensures in
    elim c.if-n-lt0.branch [
      | then-n-lt0 w ↦ rw (below _ (rw read at w.if-n-lt0.true)).spelt (puts_both w.put_byte.ensures (rw w.self-is at number))
      | else-n-lt0 w ↦ rw (natural _ (rw read at w.if-n-lt0.false)).spelt (rw w.self-is at number)
    ]

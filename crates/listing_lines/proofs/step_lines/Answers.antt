-- `step_lines` meets its contract: with i steps written, the lines from step i + 1 on are left.
use Rattle.std.proofs.Common.{◌+◌, ◌++◌, get_or, drop}
use Rattle.tape.specs.Words.{decoded}
use Rattle.tape.specs.Layout.{steps_in}
use Rattle.tape.proofs.Laws.Words.{decoded_lawful, step_sound}
use Rattle.putting.proofs.Laws.Buffers.{rest_all, rest_none, rest_next}
use Rattle.listing.proofs.Laws.Lines.{lines_next, lines_end}
use Rattle.listing_lines.proofs.step_lines.Goals as goal

pub loop-i-init : goal.loop-i-init
loop-i-init c = rest_all _ _

pub put_step-requires : goal.put_step-requires
put_step-requires c =
    let word = get_or c.args.words.now c.loop-i.i 0 in
    rw c.nth_step.ensures (step_sound (decoded word) (decoded_lawful word))

pub loop-i-preserved : goal.loop-i-preserved
loop-i-preserved c =
    rest_next _ _ (rw (lines_next c.args.words.now c.loop-i.i c.loop-i-test.true) at c.loop-i.invariant) (rw c.nth_step.ensures at c.put_step.ensures)

pub returns : goal.returns
returns c = rest_none (rw (lines_end c.args.words.now (c.loop-i.i + 1) c.loop-i.i c.loop-i-test.false) at c.loop-i.invariant)

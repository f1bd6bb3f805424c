-- `commands::as_tool` meets its contract: the tape at hand is the part between the marks, and a reply is shorter than a line may print.
use mathlib.Core.Path.{refl, sym}
use native.Mathlib.Omega.{arith}
use lib.Seq.{length-take-le}
use Rattle.scripting.proofs.Laws.Tapes.{did_print}
use Rattle.scripting.proofs.Laws.Commands.{at_hand_lem}
use Rattle.script.proofs.commands.as_tool.Goals as goal

pub slice_bounds-reply_on-end-2 : goal.slice_bounds-reply_on-end-2
slice_bounds-reply_on-end-2 c = sym (length-take-le _ _ c.requires.end)

pub returns : goal.returns
returns c =
    let told = c.reply_on-reply.ensures in
    let hand = at_hand_lem c.args.marks c.args.tapes.now in
    let t = rw hand at told in
    did_print _ c.requires refl t.text (omega (arith, t.short))

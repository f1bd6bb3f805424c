-- `to_arguments` meets its contract: the arguments of the bytes that were gone through are put; a full row takes no more of them.
use Rattle.std.proofs.Common.{◌≡◌, arith, cond, get_or}
use Rattle.std.proofs.lemmas.Bool.Decides.{nat_tests}
use lib.Dec.{eqb}
use Rattle.text.specs.Text.{blank}
use Rattle.text.proofs.Laws.Puts.{put_none}
use Rattle.scripting.proofs.Laws.Equals.{arguments_next}
use Rattle.judging.proofs.to_arguments.Goals as goal
use Rattle.judging.proofs.to_arguments.Goals.{then-byte-eq-BLANK, else-byte-eq-BLANK}

pub loop-place-init : goal.loop-place-init
loop-place-init c = put_none _ _

pub loop-place-preserved : goal.loop-place-preserved
loop-place-preserved c =
    let byte = get_or c.args.line.now c.loop-place.place 0 in
    let argument : c.if-byte-eq-BLANK.row ≡ cond (eqb byte blank) 0 byte =
    elim c.if-byte-eq-BLANK.branch [ then-byte-eq-BLANK w ↦ grind (arith, nat_tests) | else-byte-eq-BLANK w ↦ grind (arith, nat_tests) ] in
    arguments_next c.args.line.now c.loop-place.place c.loop-place-test.true c.if-row-place.false argument c.loop-place.invariant

-- `on_tape` meets its contract: each arm replies what its verb means, on the first parameters, which are no more than a verb can have.
use Prim.Native.Nat.{◌≤◌}
use native.Mathlib.Omega.{arith}
use lib.ListN.{length, length-take}
use Rattle.machine.specs.Exponents.{exponents_of}
use Rattle.tables.specs.Tables.{matrix_of}
use Rattle.sequencer.specs.Records.{record_of}
use Rattle.tool.specs.Verbs.{max_parameters}
use Rattle.tool.specs.Texts.{exponents_line, table_lines, record_line}
use Rattle.tool.specs.Replies.{tape_reply}
use Rattle.printing.proofs.Laws.Seen.{printed_by}
use Rattle.tape_verbs.proofs.on_tape.Goals as goal

-- the first parameters
few : (c : goal.After-raise-arg-1) → length c.first-given.result.now ≤ max_parameters
few c = rw c.first-given.ensures (omega (arith, length-take max_parameters c.args.values.now))

pub raise-requires : goal.raise-requires
raise-requires c = few c

-- the first parameters
few_2 : (c : goal.After-play-arg-1) → length c.first-given.result.now ≤ max_parameters
few_2 c = rw c.first-given.ensures (omega (arith, length-take max_parameters c.args.values.now))

pub play-requires : goal.play-requires
play-requires c = few_2 c

pub returns-in-Check : goal.returns-in-Check
unfolding tape_reply
returns-in-Check c = rw c.in-Check.is c.check.ensures

pub returns-in-Listing : goal.returns-in-Listing
unfolding tape_reply
returns-in-Listing c = rw c.in-Listing.is c.list.ensures

pub returns-in-Load : goal.returns-in-Load
unfolding tape_reply
returns-in-Load c = rw c.in-Load.is (rw (printed_by c.args.own record_of record_line c.load.result, c.load.ensures, c.parameter.ensures, c.first-given.ensures) at c.print.ensures)

pub returns-in-Run : goal.returns-in-Run
unfolding tape_reply
returns-in-Run c = rw c.in-Run.is (rw c.first-given.ensures at c.run.ensures)

pub returns-in-SingleStep : goal.returns-in-SingleStep
unfolding tape_reply
returns-in-SingleStep c = rw c.in-SingleStep.is (rw c.first-given.ensures at c.step.ensures)

pub returns-in-Preview : goal.returns-in-Preview
unfolding tape_reply
returns-in-Preview c = rw c.in-Preview.is (rw c.first-given.ensures at c.preview.ensures)

pub returns-in-Power : goal.returns-in-Power
unfolding tape_reply
returns-in-Power c = rw c.in-Power.is (rw (c.parameter-in-Power.ensures, c.first-given.ensures) at c.power.ensures)

pub returns-in-Raise : goal.returns-in-Raise
unfolding tape_reply
returns-in-Raise c = rw c.in-Raise.is (rw c.first-given.ensures at c.raise.ensures)

pub returns-in-Trace : goal.returns-in-Trace
unfolding tape_reply
returns-in-Trace c = rw c.in-Trace.is (rw (printed_by c.args.own exponents_of exponents_line c.trace.result, c.trace.ensures.result_value, c.parameter-in-Trace.ensures, c.first-given.ensures) at c.print-in-Trace.ensures)

pub returns-in-Table : goal.returns-in-Table
unfolding tape_reply
returns-in-Table c = rw c.in-Table.is (rw (printed_by c.args.own matrix_of table_lines c.table.result, c.table.ensures.result_value, c.parameter-in-Table.ensures, c.first-given.ensures) at c.print-in-Table.ensures)

pub returns-in-Cut : goal.returns-in-Cut
unfolding tape_reply
returns-in-Cut c = rw c.in-Cut.is (rw (c.parameter-in-Cut.ensures, c.parameter-in-Cut-2.ensures, c.first-given.ensures) at c.cut.ensures)

pub returns-in-Play : goal.returns-in-Play
unfolding tape_reply
returns-in-Play c = rw c.in-Play.is (rw c.first-given.ensures at c.play.ensures)

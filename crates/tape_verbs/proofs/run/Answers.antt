-- `run` meets its contract: the record and the goal are the six parameters.
use Rattle.sequencer.specs.Records.{record_of}
use Rattle.tool.specs.Texts.{record_line}
use Rattle.printing.proofs.Laws.Seen.{printed_by}
use Rattle.tape_verbs.proofs.run.Goals as goal

pub returns : goal.returns
returns c =
    rw (printed_by c.args.own record_of record_line c.run-answer.result, c.run-answer.ensures, c.record.ensures, c.parameter.ensures) at c.print.ensures

-- `put_verdict` meets its contract: what is said stands between its texts, of which the last goes by the comparison.
use Rattle.scripting.proofs.Laws.Verdicts.{verdict_yes, verdict_no}
use Rattle.judging.proofs.put_verdict.Goals as goal

pub returns-then-is_line : goal.returns-then-is_line
returns-then-is_line c = record {
  same_row = cc (c.put.ensures.same_row, c.put-2.ensures.same_row, c.put_then.ensures.same_row);
  put = verdict_yes c.args.printed.now c.args.said.now c.put.ensures.put c.put-2.ensures.put c.is_line.ensures c.if-is_line.true c.put_then.ensures.put;
}

pub returns : goal.returns
returns c = record {
  same_row = cc (c.put.ensures.same_row, c.put-2.ensures.same_row, c.put_then-2.ensures.same_row);
  put = verdict_no c.args.printed.now c.args.said.now c.put.ensures.put c.put-2.ensures.put c.is_line.ensures c.if-is_line.false c.put_then-2.ensures.put;
}

-- `cut` meets its contract: a refusal is told, and a part has no more words than a tape.
use Rattle.std.proofs.Common.{sym, ap, rules}
use Rattle.refusal.specs.Outcomes.{refusal_number}
use Rattle.putting.proofs.Laws.Buffers.{puts_fresh}
use Rattle.tool.proofs.Laws.Cuts.{cut_told}
use Rattle.tape_verbs.proofs.cut.Goals as goal

pub returns-in-Err : goal.returns-in-Err
returns-in-Err c =
    let refused = rw c.in-Err.is at c.cut-answer.ensures.result_value in
    rw (sym refused, ← c.from.ensures) c.refuse.ensures

pub returns : goal.returns
returns c =
    let a = c.args in
    let answered = rw c.in_default.is at c.cut-answer.ensures.result_value in
    let line = puts_fresh c.new-line.ensures c.numbers_line.ensures.put in
    cut_told a.own a.tape.now a.first a.last c.cut-answer.ensures.part_value (ap refusal_number (sym answered)) (search rules) c.numbers_line.ensures.short

-- `put_full` meets its contract: its three texts one after another are the line.
use Rattle.std.proofs.Common.{rules}
use Rattle.putting.proofs.Laws.Buffers.{put_fresh}
use Rattle.scripting.proofs.Laws.Tapes.{full_line_lem}
use Rattle.tape_row.proofs.put_full.Goals as goal

pub returns : goal.returns
returns c =
    let line = put_fresh c.new-line.ensures (full_line_lem c.args.capacity c.put.ensures.put c.put_number.ensures.put c.put_then.ensures.put) in
    search rules

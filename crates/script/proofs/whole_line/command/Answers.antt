-- `command` meets its contract: the row then begins with the arguments of the line, which fit it.
use mathlib.Core.Path.{sym}
use native.Mathlib.Omega.{arith}
use lib.Seq.{length-take-le}
use Rattle.text.proofs.Laws.Puts.{put_inside, put_taken}
use Rattle.scripting.proofs.Laws.Equals.{arguments_length}
use Rattle.scripting.proofs.Laws.Judging.{did_command}
use Rattle.script.proofs.whole_line.command.Goals as goal

pub slice_bounds-row-end : goal.slice_bounds-row-end
slice_bounds-row-end c = put_inside c.to_arguments-count.ensures (omega arith)

pub slice_bounds-commanded-end : goal.slice_bounds-commanded-end
slice_bounds-commanded-end c = sym (length-take-le c.to_arguments-count.result c.to_arguments-count.new.row (put_inside c.to_arguments-count.ensures (omega arith)))

pub returns : goal.returns
returns c =
    did_command _ c.args.line.now _ (put_taken c.to_arguments-count.ensures (omega (arith, arguments_length c.args.line.now, c.requires.line_len_bound))) c.commanded.ensures

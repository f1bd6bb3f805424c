-- `number_of` meets its contract: the row has the first parameters, held to 8 bits.
use mathlib.Core.Path.{sym}
use native.Mathlib.Omega.{arith}
use lib.Seq.{length-take-le}
use Rattle.text.proofs.Laws.Puts.{put_front, put_inside}
use Rattle.tool.specs.Replies.{number_reply}
use Rattle.number_verbs.proofs.number_of.Goals as goal

pub slice_bounds-row-end : goal.slice_bounds-row-end
slice_bounds-row-end c = put_inside c.bytes-count.ensures (omega arith)

pub slice_bounds-number_of_places-end : goal.slice_bounds-number_of_places-end
slice_bounds-number_of_places-end c = sym (length-take-le _ _ (put_inside c.bytes-count.ensures (omega arith)))

-- the row's bytes are the parameters
pub returns : goal.returns
unfolding number_reply
returns c = rw (← put_front c.bytes-count.ensures, ← c.number_of_places.ensures) c.print.ensures

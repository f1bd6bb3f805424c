-- `reply` meets its contract: the words that are read are the tape that standard input gives.
use mathlib.Core.Path.{◌≡◌, sym}
use Prim.Native.Nat.{◌≤◌}
use native.Mathlib.Omega.{arith}
use lib.ListN.{length, take}
use lib.Seq.{length-take-le}
use Rattle.text.proofs.Laws.Puts.{put_taken, put_inside}
use Rattle.encoding.specs.Encoding.{tape_in}
use Rattle.encoding.proofs.Laws.Cases.{words_most}
use Rattle.tool.specs.Replies.{reply}
use Rattle.command.proofs.reply.Goals as goal
use Rattle.command.proofs.reply.Goals.{After-tape_words-count}

fits : (c : After-tape_words-count) → c.tape_words-count.result ≤ length c.tape_words-count.new.buffer
fits c = put_inside c.tape_words-count.ensures (omega arith)

pub slice_bounds-row-end : goal.slice_bounds-row-end
slice_bounds-row-end c = fits (goal.at.slice_bounds-row-end c).After-tape_words-count

pub slice_bounds-tape-end : goal.slice_bounds-tape-end
slice_bounds-tape-end c = sym (length-take-le _ _ (fits (goal.at.slice_bounds-tape-end c).After-tape_words-count))

read : (c : After-tape_words-count) → take c.tape_words-count.result c.tape_words-count.new.buffer ≡ tape_in c.args.input.now
read c = put_taken c.tape_words-count.ensures (words_most _)

pub returns : goal.returns
unfolding reply
returns c = rw (← read (goal.at.returns c).After-tape_words-count) c.reply_on.ensures

-- `list_in` meets its contract: the bytes of the words that are used stand whole in their row, and the part of the buffer that is lent is a buffer of the
-- room.
use mathlib.Core.Path.{sym, ap, ◌∙◌}
use Prim.Native.Nat.{ℕ, min}
use native.Mathlib.Omega.{arith}
use lib.ListN.{take, length-take, length-replicate}
use lib.Seq.{length-take-le}
use Rattle.text.proofs.Laws.Puts.{put_inside, put_taken}
use Rattle.encoding.proofs.Laws.Bytes.{bytes_length}
use Rattle.tool.specs.Verbs.{max_room}
use Rattle.scripting.specs.Script.{filled}
use Rattle.scripting.specs.States.{capacity_of}
use Rattle.scripting.proofs.Laws.Rooms.{filled_part, put_list_in}
use Rattle.rooms.proofs.list_in.Goals as goal

pub slice_bounds-bytes-end : goal.slice_bounds-bytes-end
slice_bounds-bytes-end c = put_inside c.put_words-count.ensures (omega arith)

pub slice_bounds-list_into-end : goal.slice_bounds-list_into-end
slice_bounds-list_into-end c = sym (length-take-le c.put_words-count.result c.put_words-count.new.row (put_inside c.put_words-count.ensures (omega arith)))

pub returns : goal.returns
returns c =
    let tape = c.args.tape.now in
    let used = c.min-words.ensures in
    let held = c.min-held.ensures in
    let tapes = rw used at c.put_words-count.ensures in
    let both = put_list_in (min c.args.room max_room) (take (capacity_of tape) tape) _ _ (filled_part max_room c.min-held.result (omega (arith, held)) ∙ ap filled held)
    (put_taken tapes (omega (arith, bytes_length (take (capacity_of tape) tape), length-take (capacity_of tape) tape, length-replicate {A = ℕ} 16384 0))) (c.list_into.ensures.put, c.list_into.ensures.short) in
    record { put = both.0; short = both.1 }

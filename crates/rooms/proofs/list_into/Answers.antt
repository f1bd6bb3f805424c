-- `list_into` meets its contract: the count and the number are put, and the row as it is then.
use mathlib.Core.Path.{ap}
use native.Mathlib.Omega.{arith}
use lib.ListN.{length}
use Rattle.listing.proofs.Laws.Cases.{written_fits}
use Rattle.scripting.proofs.Laws.Rooms.{put_list_into}
use Rattle.std.proofs.Common.{rules}
use Rattle.putting.proofs.Laws.Buffers.{put_fresh}
use Rattle.rooms.proofs.list_into.Goals as goal

pub overflow_cast-said : goal.overflow_cast-said
overflow_cast-said c = omega (arith, written_fits c.args.bytes.now (length c.args.row.now) c.listing-listed.result c.listing-listed.ensures.value, c.requires)

pub returns : goal.returns
returns c =
    let both = put_list_into c.args.row.now c.args.bytes.now (omega (arith, ap length c.listing-listed.ensures.lines_after, c.listing-listed.auto.lines, c.requires)) c.listing-listed.ensures.value (put_fresh c.new-buffer.ensures c.numbers_line.ensures.put.put) (omega (arith, c.numbers_line.ensures.short)) (rw c.listing-listed.ensures.lines_after at c.bytes_line.ensures.put.put) (rw c.listing-listed.ensures.lines_after at c.bytes_line.ensures.short) in
    let text = both.0 in
    record { put = search rules; short = both.1 }

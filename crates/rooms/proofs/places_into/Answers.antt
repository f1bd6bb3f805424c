-- `places_into` meets its contract: the answer is put, and the row as it is then.
use mathlib.Core.Path.{ap}
use native.Mathlib.Omega.{arith}
use lib.ListN.{length}
use Rattle.scripting.proofs.Laws.Rooms.{put_places_into}
use Rattle.std.proofs.Common.{rules}
use Rattle.rooms.proofs.places_into.Goals as goal

pub returns : goal.returns
returns c =
    let both = put_places_into c.args.row.now c.args.n c.args.own c.places-found.result (omega (arith, ap length c.places-found.ensures.buffer_after, c.places-found.auto.buffer, c.requires)) c.places-found.ensures.result_value c.print-next.ensures (rw c.places-found.ensures.buffer_after at c.bytes_line.ensures.put.put) (rw c.places-found.ensures.buffer_after at c.bytes_line.ensures.short) in
    let text = both.0 in
    record { put = search rules; short = both.1 }

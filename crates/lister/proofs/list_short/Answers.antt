-- `list_short` meets its contract: the listing is made in a buffer that holds every listing, and copied where there is room.
use mathlib.Core.Path.{◌≡◌, sym, ◌∙◌}
use Prim.Native.Nat.{◌≤◌}
use native.Mathlib.Nat.{zero-add}
use native.Mathlib.Omega.{arith}
use lib.ListN.{length, take}
use lib.Seq.{length-take-le}
use Rattle.refusal.proofs.Laws.Rows.{wrote_front}
use Rattle.text.proofs.Laws.Puts.{put_fits, put_taken, put_inside}
use Rattle.listing.specs.Listing.{listing_of}
use Rattle.listing.proofs.Laws.Cases.{row_short, row_enough, listed_as_lem}
use Rattle.listing.proofs.Laws.Lengths.{listing_most}
use Rattle.lister.proofs.list_short.Goals as goal
use Rattle.lister.proofs.list_short.Goals.{After-list_bytes-made}

-- what was made: its length, and its bytes
count : (c : After-list_bytes-made) → c.list_bytes-made.result.written ≡ length (listing_of c.args.bytes.now)
count c = (put_fits c.list_bytes-made.ensures.put (rw zero-add (listing_most _))).next_is ∙ zero-add _

made : (c : After-list_bytes-made) → take c.list_bytes-made.result.written c.list_bytes-made.new.buffer ≡ listing_of c.args.bytes.now
made c = put_taken c.list_bytes-made.ensures.put (listing_most _)

fits : (c : After-list_bytes-made) → c.list_bytes-made.result.written ≤ length c.list_bytes-made.new.buffer
fits c = put_inside c.list_bytes-made.ensures.put (omega arith)

pub returns-then-lines-count : goal.returns-then-lines-count
returns-then-lines-count c =
    let p = row_short c.args.bytes.now c.args.lines.now (omega (arith, c.if-lines-count.true, count (goal.at.returns-then-lines-count c).After-list_bytes-made)) in
    rw c.from.ensures (record { value = p.0; lines_after = p.1 })

pub slice_bounds-text-end : goal.slice_bounds-text-end
slice_bounds-text-end c = fits (goal.at.slice_bounds-text-end c).After-list_bytes-made

pub slice_bounds-put-end : goal.slice_bounds-put-end
slice_bounds-put-end c = sym (length-take-le _ _ (fits (goal.at.slice_bounds-put-end c).After-list_bytes-made))

pub returns : goal.returns
returns c =
    let list = (goal.at.returns c).After-list_bytes-made in
    let room : length (listing_of c.args.bytes.now) ≤ length c.args.lines.now =
    omega (arith, c.if-lines-count.false, count list) in
    let p = row_enough _ _ room in
    record {
      value = listed_as_lem _ (count list) c.list_bytes-made.ensures.number_value ∙ p.0;
      lines_after = wrote_front (put_fits (rw (made list) at c.put.ensures) (rw zero-add room)) room ∙ p.1;
    }

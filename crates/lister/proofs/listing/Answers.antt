-- `listing` meets its contract: a buffer that holds every listing takes it as it is made, and any other is `list_short`'s.
use mathlib.Core.Path.{◌∙◌}
use Prim.Native.Nat.{◌≤◌}
use native.Mathlib.Nat.{zero-add}
use native.Mathlib.Omega.{arith}
use lib.ListN.{length}
use Rattle.refusal.proofs.Laws.Rows.{wrote_front}
use Rattle.text.proofs.Laws.Puts.{put_fits}
use Rattle.listing.specs.Listing.{listing_of}
use Rattle.listing.proofs.Laws.Cases.{row_enough, listed_as_lem}
use Rattle.listing.proofs.Laws.Lengths.{listing_most}
use Rattle.lister.proofs.listing.Goals as goal

pub returns : goal.returns
returns c =
    let room : length (listing_of c.args.bytes.now) ≤ length c.args.lines.now = omega (arith, listing_most c.args.bytes.now) in
    let wrote = put_fits c.list_bytes.ensures.put (rw zero-add room) in
    let p = row_enough _ _ room in
    record {
      value = listed_as_lem _ (wrote.next_is ∙ zero-add _) c.list_bytes.ensures.number_value ∙ p.0;
      lines_after = wrote_front wrote room ∙ p.1;
    }

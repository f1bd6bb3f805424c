-- `list` meets its contract: no listing is longer than a text may be.
use mathlib.Core.Path.{refl}
use native.Mathlib.Omega.{arith}
use Rattle.listing.proofs.Laws.Lengths.{tape_listing_most}
use Rattle.tape_verbs.proofs.list.Goals as goal

pub returns : goal.returns
returns c = record { status = refl; text = c.list_tape-listed.ensures.put; short = omega (arith, tape_listing_most c.args.tape.now) }

-- `main` is safe: what was read and a listing's bytes fit the rows that they are in.
use mathlib.Core.Path.{sym}
use native.Mathlib.Omega.{arith}
use lib.Seq.{length-take-le}
use Rattle.listing.proofs.Laws.Cases.{written_fits}
use Rattle.list.proofs.main.Goals as goal

pub slice_bounds-lines-end : goal.slice_bounds-lines-end
slice_bounds-lines-end c = omega (arith, written_fits _ _ _ c.listing-listed.ensures.value, c.listing-listed.auto.lines)

pub slice_bounds-write_output-end : goal.slice_bounds-write_output-end
slice_bounds-write_output-end c = sym (length-take-le _ _ (omega (arith, written_fits _ _ _ c.listing-listed.ensures.value, c.listing-listed.auto.lines)))

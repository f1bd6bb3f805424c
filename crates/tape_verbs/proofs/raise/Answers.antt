-- `raise` meets its contract: the part of the row that is lent holds the parameters, which all fit.
use mathlib.Core.Path.{◌≡◌, sym}
use Prim.Native.Nat.{◌≤◌}
use native.Mathlib.Omega.{arith}
use lib.ListN.{length, take}
use lib.Seq.{length-take-le}
use Rattle.text.proofs.Laws.Puts.{put_taken, put_inside}
use Rattle.tape_verbs.proofs.raise.Goals as goal
use Rattle.tape_verbs.proofs.raise.Goals.{After-put-count}

module _ (c : After-put-count) where
  taken : take c.put-count.result c.put-count.new.row ≡ c.args.values.now
  taken = put_taken c.put-count.ensures c.requires

  inside : c.put-count.result ≤ length c.put-count.new.row
  inside = put_inside c.put-count.ensures (omega arith)

pub slice_bounds-row-end : goal.slice_bounds-row-end
slice_bounds-row-end c = inside (goal.at.slice_bounds-row-end c).After-put-count

pub slice_bounds-raise_row-end : goal.slice_bounds-raise_row-end
slice_bounds-raise_row-end c = sym (length-take-le _ c.put-count.new.row (inside (goal.at.slice_bounds-raise_row-end c).After-put-count))

pub raise_row-requires : goal.raise_row-requires
raise_row-requires c = rw (taken (goal.at.raise_row-requires c).After-put-count) c.requires

pub returns : goal.returns
returns c = rw (taken (goal.at.returns c).After-put-count) at c.raise_row.ensures

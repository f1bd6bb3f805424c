-- `rows::exchange_rows` meets its contract: a turn exchanges the two rows in one lane more.
use mathlib.Core.Path.{◌≡◌}
use Prim.Native.Nat.{◌+◌, ◌*◌, ◌<◌}
use native.Mathlib.Omega.{arith}
use Rattle.std.proofs.lemmas.List.Edits.{swap_is}
use Rattle.lanes.specs.Inner.Lanes.{max_lanes}
use Rattle.lanes.proofs.Laws.Rows.{changed_none, changed_next}
use Rattle.lanes.proofs.rows.exchange_rows.Goals as goal

pub loop-j-init : goal.loop-j-init
loop-j-init c = (omega arith, changed_none _ _ _ _ _)

pub loop-j-preserved : goal.loop-j-preserved
loop-j-preserved c =
    let done = c.loop-j.invariant.1 in
    let inside : c.loop-j.j < max_lanes = omega (arith, c.requires.0.few) in (
      omega arith,
      rw (c.swap.ensures.after, ← swap_is c.loop-j.rows (max_lanes * c.args.t + c.loop-j.j) (max_lanes * c.args.s + c.loop-j.j) 0 (omega (arith, done.long, c.requires.0.eight)) (omega (arith, done.long, c.requires.0.eight)))
          (changed_next _ _ _ _ _ _ _ _ _ inside c.requires.0.eight c.requires.1 c.requires.2 done
          (done.ahead _ _ (omega arith) inside) (done.ahead _ _ (omega arith) inside)),
    )

pub shape_of-rows : goal.shape_of-rows
shape_of-rows c = c.loop-j.invariant.1.long

pub returns : goal.returns
returns c = let all : c.loop-j.j ≡ c.args.count = omega arith in rw all at c.loop-j.invariant.1

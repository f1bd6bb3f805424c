-- `rows::multiply_rows` meets its contract: a turn multiplies the two rows in one lane more.
use mathlib.Core.Path.{◌≡◌, ap₂, ◌∙◌}
use Prim.Native.Nat.{ℕ, ◌<◌}
use native.Mathlib.Omega.{arith}
use lib.ListN.{length-set}
use Rattle.montgomery.specs.Inner.Forms.{form_times}
use Rattle.lanes.specs.Inner.Lanes.{max_lanes, entry}
use Rattle.lanes.proofs.Laws.Rows.{changed_none, changed_next}
use Rattle.lanes.proofs.rows.multiply_rows.Goals as goal

pub loop-j-init : goal.loop-j-init
loop-j-init c = (omega arith, changed_none _ _ _ _ _)

pub overflow_mul-at : goal.overflow_mul-at
overflow_mul-at c = omega arith

pub overflow_add-at : goal.overflow_add-at
overflow_add-at c = omega arith

pub overflow_add-beside : goal.overflow_add-beside
overflow_add-beside c = omega arith

pub overflow_mul-beside : goal.overflow_mul-beside
overflow_mul-beside c = omega arith

pub overflow_add-beside-in-loop-j : goal.overflow_add-beside-in-loop-j
overflow_add-beside-in-loop-j c = omega arith

pub bounds-rows-at : goal.bounds-rows-at
bounds-rows-at c = omega (arith, c.loop-j.invariant.1.long, c.requires.0.eight)

pub overflow_mul-a : goal.overflow_mul-a
overflow_mul-a c = omega arith

pub overflow_add-a : goal.overflow_add-a
overflow_add-a c = omega arith

pub bounds-rows-a : goal.bounds-rows-a
bounds-rows-a c = omega (arith, c.loop-j.invariant.1.long, c.requires.0.eight)

pub bounds-rows-beside : goal.bounds-rows-beside
bounds-rows-beside c = omega (arith, c.loop-j.invariant.1.long, c.requires.0.eight)

pub overflow_mul-b : goal.overflow_mul-b
overflow_mul-b c = omega arith

pub overflow_add-b : goal.overflow_add-b
overflow_add-b c = omega arith

pub bounds-rows-b : goal.bounds-rows-b
bounds-rows-b c = omega (arith, c.loop-j.invariant.1.long, c.requires.0.eight)

pub bounds-rows-at-in-loop-j : goal.bounds-rows-at-in-loop-j
bounds-rows-at-in-loop-j c = omega (arith, c.loop-j.invariant.1.long, c.requires.0.eight)

pub bounds-rows-beside-in-loop-j : goal.bounds-rows-beside-in-loop-j
bounds-rows-beside-in-loop-j c = simp length-set (omega (arith, c.loop-j.invariant.1.long, c.requires.0.eight))

pub loop-j-preserved : goal.loop-j-preserved
loop-j-preserved c =
    let done = c.loop-j.invariant.1 in
    let inside : c.loop-j.j < max_lanes = omega (arith, c.requires.0.few) in
    let same : (i : ℕ) → entry c.loop-j.rows i c.loop-j.j ≡ entry c.args.rows.now i c.loop-j.j = λ i. done.ahead i c.loop-j.j (omega arith) inside in (
      omega arith,
      changed_next _ _ _ _ _ _ _ _ _ inside c.requires.0.eight (omega (arith, c.requires.1)) (omega (arith, c.requires.1)) done
          (c.multiply-x.ensures ∙ ap₂ (form_times c.args.m) (same _) (same _))
          (c.multiply-y.ensures ∙ ap₂ (form_times c.args.m) (same _) (same _)),
    )

pub shape_of-rows : goal.shape_of-rows
shape_of-rows c = c.loop-j.invariant.1.long

pub returns : goal.returns
returns c = let all : c.loop-j.j ≡ c.args.count = omega arith in rw all at c.loop-j.invariant.1

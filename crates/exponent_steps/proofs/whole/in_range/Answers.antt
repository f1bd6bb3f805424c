-- `whole::in_range` meets its contract: its tests are those of the definition.
use Rattle.std.specs.Prelude.{◌≡◌, true, false, ℤ}
use lib.Signed.{le_z}
use Rattle.machine.specs.Exponents.{in_range}
use Rattle.machine.proofs.Laws.Sums.{lowest, highest, from_bits}
use Rattle.exponent_steps.proofs.whole.in_range.Goals as goal
use Rattle.exponent_steps.proofs.whole.in_range.Goals.{else-x-ge-LOWEST-via-then-x-ge-LOWEST+else-x-le-HIGHEST, else-x-ge-LOWEST-via-else-x-ge-LOWEST}

module _ (e : ℤ) where
  inside : le_z lowest e ≡ true → le_z e highest ≡ true → in_range e ≡ true
  unfolding in_range
  inside low high = rw (low, high)

  too_low : le_z lowest e ≡ false → in_range e ≡ true → ⊥
  unfolding in_range
  too_low low r = let f = rw low at r in cc

  too_high : le_z lowest e ≡ true → le_z e highest ≡ false → in_range e ≡ true → ⊥
  unfolding in_range
  too_high low high r = let f = rw (low, high) at r in cc

pub returns-then-x-le-HIGHEST : goal.returns-then-x-le-HIGHEST
returns-then-x-le-HIGHEST c =
    let is = from_bits c.args.x c.ranges.x.sfits in
    (inside c.args.x (rw is at c.if-x-ge-LOWEST.true) (rw is at c.if-x-le-HIGHEST.true), is)

pub returns : goal.returns
returns c =
    let is = from_bits c.args.x c.ranges.x.sfits in
    elim c.else-x-ge-LOWEST.branch [
      | else-x-ge-LOWEST-via-then-x-ge-LOWEST+else-x-le-HIGHEST w ↦ too_high c.args.x (rw is at w.if-x-ge-LOWEST.true) (rw is at w.if-x-le-HIGHEST.false)
      | else-x-ge-LOWEST-via-else-x-ge-LOWEST w ↦ too_low c.args.x (rw is at w.if-x-ge-LOWEST.false)
    ]

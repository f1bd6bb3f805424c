-- `inverse_of` meets its contract. The loop's invariant is what Euclid's algorithm keeps, which also bounds the coefficients
-- by m, so that no product or difference overflows.
use Rattle.std.proofs.Common.{◌≡◌, ℕ, ◌/◌, ◌%◌, ◌<◌, sym, ◌∙◌, ap, true, ℤ, pos, ◌+ℤ◌, ◌-ℤ◌, ◌*ℤ◌, to_z, of_z, w32, w64, Some, arith}
use Rattle.std.proofs.Math.Facts.{to_z-of_z}
use native.Mathlib.Nat.{div-le_self}
use lib.IntN.{nat_abs}
use lib.Signed.{lt_z, non_neg}
use lib.Dec.{T}
use mir.Val.{Fits, SFits}
use Rattle.modular.specs.Inverses.{inverse, nonzero}
use Rattle.modular.proofs.Laws.Euclid.{Kept, kept_start, Turn, turn}
use Rattle.modular.proofs.Laws.Ends.{Last, last, coprime_last, Whole, below_zero, not_below}
use Rattle.modular.proofs.Laws.Inverses.{inverse_is, inverse_none, inverse_small, nonzero_none, nonzero_some}
use Rattle.modular.proofs.inverse_of.Goals as goal
use Rattle.modular.proofs.inverse_of.Goals.{then-s-lt0, else-s-lt0}

-- a turn of the loop on signed words
module _ (x m a b : ℕ) (q s t : ℤ) (whole : q ≡ pos (a / b)) (some : 0 < b) (small : m < 4294967296) (k : Kept x m a b s t) where
  quotient : to_z w64 (of_z w64 q) ≡ pos (a / b)
  quotient = rw whole (to_z-of_z {w = w64} (record { sfits = omega (arith, div-le_self a b, k.bound) }))

  turned : Turn x m a b s t
  turned = turn _ _ _ _ _ _ some k

  product_fits : SFits w64 (to_z w64 (of_z w64 q) *ℤ t)
  product_fits = rw quotient (record { sfits = omega (arith, turned.product) })

  difference : s -ℤ to_z w64 (of_z w64 (to_z w64 (of_z w64 q) *ℤ t)) ≡ s -ℤ pos (a / b) *ℤ t
  difference = rw (to_z-of_z product_fits, quotient)

  difference_fits : SFits w64 (s -ℤ to_z w64 (of_z w64 (to_z w64 (of_z w64 q) *ℤ t)))
  difference_fits = rw difference (record { sfits = omega (arith, turned.difference) })

  next : Kept x m b (a % b) t (to_z w64 (of_z w64 (s -ℤ to_z w64 (of_z w64 (to_z w64 (of_z w64 q) *ℤ t)))))
  next = rw (to_z-of_z difference_fits, difference) turned.next

pub returns-then-m-lt2 : goal.returns-then-m-lt2
returns-then-m-lt2 c = nonzero_none _ (inverse_small _ _ (omega arith))

pub loop-b-init : goal.loop-b-init
loop-b-init c = kept_start _ _ (omega arith)

pub overflow_mul-t : goal.overflow_mul-t
overflow_mul-t c = product_fits _ _ _ _ _ _ _ c.from-q.ensures (omega arith) (omega arith) c.loop-b.invariant

pub overflow_sub-t : goal.overflow_sub-t
overflow_sub-t c = difference_fits _ _ _ _ _ _ _ c.from-q.ensures (omega arith) (omega arith) c.loop-b.invariant

pub loop-b-preserved : goal.loop-b-preserved
loop-b-preserved c = next _ _ _ _ _ _ _ c.from-q.ensures (omega arith) (omega arith) c.loop-b.invariant

pub returns-then-a-ne1 : goal.returns-then-a-ne1
returns-then-a-ne1 c =
    nonzero_none _ (inverse_none _ _ (λ alone. omega (arith, coprime_last _ _ _ _ _ _ c.loop-b-test.false c.loop-b.invariant alone)))

-- the answer is the last coefficient, or that and m where it is negative
module _ (x m : ℕ) (small : m < 4294967296) where
  fits : (z : ℤ) → Whole x m z → SFits w64 z
  fits z w = rw w.is (record { sfits = omega (arith, w.inverse.high) })

  fits_32 : (z : ℤ) → Whole x m z → T (non_neg z) × Fits w32 (nat_abs z)
  fits_32 z w = rw w.is (tt, record { fits = omega (arith, w.inverse.high) })

  number : (z : ℤ) → Whole x m z → Some (nat_abs z) ≡ nonzero (inverse m x)
  number z w = ap Some (ap nat_abs w.is) ∙ nonzero_some _ w.inverse.low ∙ ap nonzero (sym (inverse_is _ _ w.value w.inverse))

  module _ (s n : ℤ) (is : n ≡ pos m) (l : Last x m s) (less : lt_z s (pos 0) ≡ true) where
    lifted : Whole x m (s +ℤ to_z w64 (of_z w64 n))
    lifted =
        let word : to_z w64 (of_z w64 (pos m)) ≡ pos m = to_z-of_z {w = w64} (record { sfits = omega arith }) in
        rw (is, word) (below_zero _ _ _ l less)

    lifted_word : Whole x m (to_z w64 (of_z w64 (s +ℤ to_z w64 (of_z w64 n))))
    lifted_word = rw (to_z-of_z (fits _ lifted)) lifted

pub overflow_add-s : goal.overflow_add-s
overflow_add-s c =
    let l = last _ _ _ _ _ _ (omega arith) (omega arith) (omega arith) c.loop-b.invariant in
    fits _ _ (omega arith) _ (lifted _ _ (omega arith) _ _ c.from-s.ensures l c.if-s-lt0.true)

pub overflow_cast-result : goal.overflow_cast-result
overflow_cast-result c =
    let l = last _ _ _ _ _ _ (omega arith) (omega arith) (omega arith) c.loop-b.invariant in
    elim c.if-s-lt0.branch [
      | then-s-lt0 w ↦ rw w.s-is (fits_32 _ _ (omega arith) _ (lifted_word _ _ (omega arith) _ _ w.from-s.ensures l w.if-s-lt0.true))
      | else-s-lt0 w ↦ rw w.s-is (fits_32 _ _ (omega arith) _ (not_below _ _ _ l w.if-s-lt0.false))
    ]

pub returns : goal.returns
returns c =
    let coefficient = last _ _ _ _ _ _ (omega arith) (omega arith) (omega arith) c.loop-b.invariant in elim c.if-s-lt0.branch [
      | then-s-lt0 w ↦ rw w.s-is (number _ _ (omega arith) _ (lifted_word _ _ (omega arith) _ _ w.from-s.ensures coefficient w.if-s-lt0.true))
      | else-s-lt0 w ↦ rw w.s-is (number _ _ (omega arith) _ (not_below _ _ _ coefficient w.if-s-lt0.false))
    ]

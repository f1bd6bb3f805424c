-- A step on the code's exponents. A sum or difference is told to leave the range before it is made, since a number can be moved from
-- one side of a test to the other; past that test it fits its type. From exponents in range, a step leaves the range exactly where the
-- number that it makes does.
use mathlib.Core.Path.{◌≡◌, refl, sym, ap, ap₂, ◌∙◌}
use mathlib.Core.Bool.{Bool, true, false, ◌&&◌, and-true, and-false}
use mathlib.Core.List.{List, [], ◌∷◌}
use Prim.Native.Nat.{ℕ, zero, suc, ◌≤◌, ◌<◌, ◌^◌}
use native.Mathlib.Omega.{arith}
use lib.IntN.{ℤ, pos, negsuc, neg_ℤ, ◌+ℤ◌, ◌-ℤ◌, +ℤ_idl}
use lib.ListN.{set}
use lib.Signed.{le_z, lt_z, mag}
use mir.Syntax.{w64}
use mir.Val.{SFits, to_z, of_z}
use mir.ValLaws.{to_z-of_z}
use Rattle.refusal.proofs.Laws.Tests.{both}
use Rattle.tape.specs.declared.Step.{Step}
use Rattle.tape.specs.declared.Step.TheVariants.{Mul, Div, Swp}
use Rattle.machine.specs.Exponents.{exponent, shift, in_range, all_in_range, makes_in_range, shift_in_range}
use Rattle.machine.proofs.Laws.Integers.{over, under, over_opposite, under_opposite, over_less, under_less, under_sum, over_sum, lt_z_true, lt_z_false, le_z_true, most_less, least_less, most_more, least_more}
use Rattle.machine.proofs.Laws.Ranges.{within_range, range_within}

abbrev pub lowest : ℤ
lowest = neg_ℤ (pos (2 ^ 62))

abbrev pub highest : ℤ
highest = pos (2 ^ 62)

-- ---- 64 bits

pub fits : (e : ℤ) → over e < 2 ^ 63 → under e ≤ 2 ^ 63 → SFits w64 e
fits (pos n) h k = record { sfits = h }
fits (negsuc n) h k = record { sfits = k }

-- a number comes back from its bits
pub from_bits : (e : ℤ) → mag e < 2 ^ 63 → to_z w64 (of_z w64 e) ≡ e
from_bits e h = to_z-of_z w64 e (record { sfits = h })

-- and so do four
pub four_from_bits : (w x y z : ℤ) → mag w < 2 ^ 63 → mag x < 2 ^ 63 → mag y < 2 ^ 63 → mag z < 2 ^ 63
    → to_z w64 (of_z w64 w) ∷ to_z w64 (of_z w64 x) ∷ to_z w64 (of_z w64 y) ∷ to_z w64 (of_z w64 z) ∷ [] ≡ w ∷ x ∷ y ∷ z ∷ []
four_from_bits w x y z a b c d = rw (from_bits w a, from_bits x b, from_bits y c, from_bits z d)

pub range_fits : (e : ℤ) → in_range e ≡ true → SFits w64 e
range_fits e r = let w = range_within e r in fits e (omega arith) (omega arith)

-- what its type says of its two parts
parts : (e : ℤ) → SFits w64 e → (over e < 2 ^ 63) × (under e ≤ 2 ^ 63)
parts (pos n) h = (h.sfits, omega arith)
parts (negsuc n) h = (omega arith, h.sfits)

-- ---- the two tests of a number

under_highest : (e : ℤ) → le_z e highest ≡ true → over e < 2 ^ 63
under_highest (pos n) t = omega (arith, le_z_true (pos n) highest t)
under_highest (negsuc n) t = omega arith

over_lowest : (e : ℤ) → le_z lowest e ≡ true → under e ≤ 2 ^ 63
over_lowest (pos n) t = omega arith
over_lowest (negsuc n) t = omega (arith, le_z_true lowest (negsuc n) t)

-- A number e of the range's test, told in two steps: the first, by what is left of the range on the side that e can leave it on, says
-- that e can be made; the second tests e on the other side.
pub record RangeTested (left : ℤ) (first : Bool) (e : ℤ) (second : Bool) : Type 0 where
  pub left_fits : SFits w64 left
  pub made_fits : first ≡ true → SFits w64 e
  pub tested : first ≡ true → second ≡ in_range e
  pub outside : first ≡ false → false ≡ in_range e

module _ (left e : ℤ) (room : SFits w64 left) where
  told_above : (t : Bool) → t ≡ le_z e highest → under e ≤ 2 ^ 63 → RangeTested left t e (le_z lowest e)
  unfolding in_range
  told_above t is low = record {
    left_fits = room;
    made_fits = λ h. fits e (under_highest e (sym is ∙ h)) low;
    tested = λ h. sym (ap (λ b. le_z lowest e && b) (sym is ∙ h) ∙ and-true (le_z lowest e));
    outside = λ h. sym (ap (λ b. le_z lowest e && b) (sym is ∙ h) ∙ and-false (le_z lowest e));
  }

  told_below : (t : Bool) → t ≡ le_z lowest e → over e < 2 ^ 63 → RangeTested left t e (le_z e highest)
  unfolding in_range
  told_below t is high = record {
    left_fits = room;
    made_fits = λ h. fits e high (over_lowest e (sym is ∙ h));
    tested = λ h. sym (ap (λ b. b && le_z e highest) (sym is ∙ h));
    outside = λ h. sym (ap (λ b. b && le_z e highest) (sym is ∙ h));
  }

-- a sum and a difference
module _ (x y : ℤ) (fx : SFits w64 x) (fy : SFits w64 y) where
  module _ (positive : lt_z (pos 0) y ≡ true) where
    pub sum_above : RangeTested (highest -ℤ y) (le_z x (highest -ℤ y)) (x +ℤ y) (le_z lowest (x +ℤ y))
    sum_above =
        let l = lt_z_true (pos 0) y positive in
        told_above (highest -ℤ y) (x +ℤ y)
        (fits (highest -ℤ y) (omega (arith, over_less highest y)) (omega (arith, under_less highest y, (parts y fy).0)))
        _ (most_less x y highest) (omega (arith, under_sum x y, (parts x fx).1))

    pub difference_above : RangeTested (lowest +ℤ y) (le_z (lowest +ℤ y) x) (x -ℤ y) (le_z (x -ℤ y) highest)
    difference_above =
        let l = lt_z_true (pos 0) y positive in
        told_below (lowest +ℤ y) (x -ℤ y)
        (fits (lowest +ℤ y) (omega (arith, over_sum lowest y, (parts y fy).0)) (omega (arith, under_sum lowest y)))
        _ (least_more x y lowest) (omega (arith, over_less x y, (parts x fx).0))

  module _ (rest : lt_z (pos 0) y ≡ false) where
    pub sum_below : RangeTested (lowest -ℤ y) (le_z (lowest -ℤ y) x) (x +ℤ y) (le_z (x +ℤ y) highest)
    sum_below =
        let l = lt_z_false (pos 0) y rest in
        told_below (lowest -ℤ y) (x +ℤ y)
        (fits (lowest -ℤ y) (omega (arith, over_less lowest y, (parts y fy).1)) (omega (arith, under_less lowest y)))
        _ (least_less x y lowest) (omega (arith, over_sum x y, (parts x fx).0))

    pub difference_below : RangeTested (highest +ℤ y) (le_z x (highest +ℤ y)) (x -ℤ y) (le_z lowest (x -ℤ y))
    difference_below =
        let l = lt_z_false (pos 0) y rest in
        told_above (highest +ℤ y) (x -ℤ y)
        (fits (highest +ℤ y) (omega (arith, over_sum highest y)) (omega (arith, under_sum highest y, (parts y fy).1)))
        _ (most_more x y highest) (omega (arith, under_less x y, (parts x fx).1))

-- ---- several exponents

pub exponent_range : (z : List ℤ) (i : ℕ) → all_in_range z ≡ true → in_range (exponent z i) ≡ true
unfolding all_in_range
exponent_range [] i r = within_range (pos 0) (record { high = omega arith; low = omega arith })
exponent_range (e ∷ z) zero r = (both (in_range e) (all_in_range z) r).0
exponent_range (e ∷ z) (suc i) r = exponent_range z i (both (in_range e) (all_in_range z) r).1

set_range : (z : List ℤ) (i : ℕ) (x : ℤ) → all_in_range z ≡ true → in_range x ≡ true → all_in_range (set z i x) ≡ true
unfolding all_in_range
set_range [] i x r s = refl
set_range (e ∷ z) zero x r s = ap₂ ◌&&◌ s (both (in_range e) (all_in_range z) r).1
set_range (e ∷ z) (suc i) x r s = let t = both (in_range e) (all_in_range z) r in ap₂ ◌&&◌ t.0 (set_range z i x t.1 s)

-- with a number added to one of them; past the last there is none, and nothing is added to it
add_range : (z : List ℤ) (i : ℕ) (y : ℤ) → all_in_range z ≡ true → in_range y ≡ true
    → all_in_range (set z i (exponent z i +ℤ y)) ≡ in_range (exponent z i +ℤ y)
unfolding all_in_range
add_range [] i y r s = sym (ap in_range (+ℤ_idl y) ∙ s)
add_range (e ∷ z) zero y r s = ap (λ t. in_range (e +ℤ y) && t) (both (in_range e) (all_in_range z) r).1 ∙ and-true _
add_range (e ∷ z) (suc i) y r s =
    let t = both (in_range e) (all_in_range z) r in
    ap (λ b. b && all_in_range (set z i (exponent z i +ℤ y))) t.0 ∙ add_range z i y t.1 s

opposite_range : (y : ℤ) → in_range y ≡ true → in_range (neg_ℤ y) ≡ true
opposite_range y r =
    let w = range_within y r in
    within_range (neg_ℤ y) (record { high = omega (arith, over_opposite y); low = omega (arith, under_opposite y) })

-- from exponents in range a step leads to exponents in range exactly where the number that it makes is
pub step_range : (x : Step) (z : List ℤ) → all_in_range z ≡ true → all_in_range (shift x z) ≡ makes_in_range x z
unfolding shift makes_in_range
step_range (Mul t s) z r = add_range z t (exponent z s) r (exponent_range z s r)
step_range (Div t s) z r = add_range z t (neg_ℤ (exponent z s)) r (opposite_range (exponent z s) (exponent_range z s r))
step_range (Swp t s) z r = set_range (set z t (exponent z s)) s (exponent z t) (set_range z t (exponent z s) r (exponent_range z s r)) (exponent_range z t r)

-- ---- the arm of a step

-- a step that makes the number e, for register t
pub record Makes (step : Step) (z : List ℤ) (t : ℕ) (e : ℤ) : Type 0 where
  pub tests : makes_in_range step z ≡ in_range e
  pub sets : shift step z ≡ set z t e

module _ (step : Step) (z : List ℤ) (t s : ℕ) (x y : ℤ) (target : x ≡ exponent z t) (source : y ≡ exponent z s) where
  pub mul_makes : step ≡ Mul t s → Makes step z t (x +ℤ y)
  unfolding makes_in_range shift
  mul_makes e = rw (e, target, source) (record { tests = refl; sets = refl })

  pub div_makes : step ≡ Div t s → Makes step z t (x -ℤ y)
  unfolding makes_in_range shift
  div_makes e = rw (e, target, source) (record { tests = refl; sets = refl })

  pub swp_done : (u w : List ℤ) → step ≡ Swp t s → u ≡ set z t y → w ≡ set u s x → (true ≡ makes_in_range step z) × (w ≡ shift_in_range step z)
  unfolding makes_in_range shift shift_in_range
  swp_done u w e first second = rw e (refl, cc (target, source, first, second))

module _ (step : Step) (z : List ℤ) (t : ℕ) (e : ℤ) (makes : Makes step z t e) where
  pub step_stops : in_range e ≡ false → (false ≡ makes_in_range step z) × (z ≡ shift_in_range step z)
  unfolding shift_in_range
  step_stops out = let test = makes.tests ∙ out in (sym test, rw test)

  pub step_done : (w : List ℤ) → in_range e ≡ true → w ≡ set z t e → (true ≡ makes_in_range step z) × (w ≡ shift_in_range step z)
  unfolding shift_in_range
  step_done w r is = let test = makes.tests ∙ r in (sym test, rw test (is ∙ sym makes.sets))

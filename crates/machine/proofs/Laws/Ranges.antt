-- Exponents that stay in range: steps that take exponents to exponents, within a bound at every position, go on one after another,
-- and taken back they come through the positions that they went through.
use mathlib.Core.Path.{◌≡◌, refl, sym, ◌∙◌, ap, ap₂}
use mathlib.Core.Bool.{true, false, ◌&&◌}
use mathlib.Core.List.{List, [], ◌∷◌, ◌++◌}
use Prim.Native.Nat.{ℕ, zero, suc, ◌+◌, ◌<◌, ◌≤◌, ◌^◌}
use native.Mathlib.Omega.{arith}
use lib.IntN.{ℤ, pos, negsuc, neg_ℤ, ◌+ℤ◌, ◌-ℤ◌}
use lib.Signed.{le_z, lt_z}
use lib.ListN.{length, take}
use lib.Seq.{take-length}
use Rattle.refusal.proofs.Laws.Tests.{both}
use Rattle.tape.specs.declared.Step.{Step}
use Rattle.tape.specs.Steps.{AllSound}
use Rattle.machine.specs.Machine.{inverse_step, inverted}
use Rattle.machine.specs.Exponents.{exponent, shift, shift_all, start_exponents, exponents_at, in_range, all_in_range, stays_in_range}
use Rattle.machine.proofs.Laws.Integers.{over, under, over_sum, under_sum, Within, within_less, within_more, le_le_z, le_z_true, lt_z_false}
use Rattle.machine.proofs.Laws.Exponents.{length_shift, shift_inverse_step}

-- ---- the tests

pub within_range : (e : ℤ) → Within (2 ^ 62) e → in_range e ≡ true
unfolding in_range
within_range e w = rw (le_le_z (neg_ℤ (pos (2 ^ 62))) e (omega arith), le_le_z e (pos (2 ^ 62)) (omega arith))

-- one of a number's two parts is 0
inside_within : (m : ℕ) (e : ℤ) → under e ≤ over e + m → over e ≤ under e + m → Within m e
inside_within m (pos n) low high = record { high = omega arith; low = omega arith }
inside_within m (negsuc n) low high = record { high = omega arith; low = omega arith }

pub range_within : (e : ℤ) → in_range e ≡ true → Within (2 ^ 62) e
unfolding in_range
range_within e r =
    let least = neg_ℤ (pos (2 ^ 62)) in
    let t = both (le_z least e) (le_z e (pos (2 ^ 62))) r in
    inside_within (2 ^ 62) e (omega (arith, le_z_true least e t.0)) (omega (arith, le_z_true e (pos (2 ^ 62)) t.1))

-- in half of the range
half_within : (e : ℤ) → lt_z e (neg_ℤ (pos (2 ^ 61))) ≡ false → lt_z (pos (2 ^ 61)) e ≡ false → Within (2 ^ 61) e
half_within e low high = inside_within (2 ^ 61) e (omega (arith, lt_z_false e (neg_ℤ (pos (2 ^ 61))) low)) (omega (arith, lt_z_false (pos (2 ^ 61)) e high))

-- two numbers there have their sum and their difference in the range
pub half_range : (x y : ℤ) → lt_z x (neg_ℤ (pos (2 ^ 61))) ≡ false → lt_z (pos (2 ^ 61)) x ≡ false → lt_z y (neg_ℤ (pos (2 ^ 61))) ≡ false → lt_z (pos (2 ^ 61)) y ≡ false
    → (in_range (x +ℤ y) ≡ true) × (in_range (x -ℤ y) ≡ true)
half_range x y xl xh yl yh =
    let v = half_within x xl xh in
    let w = half_within y yl yh in (
      within_range (x +ℤ y) (record { high = omega (arith, over_sum x y); low = omega (arith, under_sum x y) }),
      within_range (x -ℤ y) (within_less x y v w),
    )

-- ---- of a list of exponents, each

pub each_in_range : (z : List ℤ) → all_in_range z ≡ true → (i : ℕ) → i < length z → in_range (exponent z i) ≡ true
unfolding all_in_range
each_in_range [] all i h = absurd (omega arith)
each_in_range (e ∷ z) all zero h = (both (in_range e) (all_in_range z) all).0
each_in_range (e ∷ z) all (suc i) h = each_in_range z (both (in_range e) (all_in_range z) all).1 i (omega arith)

pub all_in_range_lem : (z : List ℤ) → ((i : ℕ) → i < length z → in_range (exponent z i) ≡ true) → all_in_range z ≡ true
unfolding all_in_range
all_in_range_lem [] each = refl
all_in_range_lem (e ∷ z) each = ap₂ ◌&&◌ (each 0 (omega arith)) (all_in_range_lem z (λ i h. each (suc i) (omega arith)))

-- ---- of steps, at every position

pub stays_first : (xs : List Step) (z : List ℤ) → stays_in_range xs z ≡ true → all_in_range z ≡ true
unfolding stays_in_range
stays_first [] z s = s
stays_first (x ∷ xs) z s = (both (all_in_range z) (stays_in_range xs (shift x z)) s).0

-- a list that stays in range does so up to each of its positions
pub stays_take : (n : ℕ) (xs : List Step) (z : List ℤ) → stays_in_range xs z ≡ true → stays_in_range (take n xs) z ≡ true
unfolding stays_in_range
stays_take zero xs z s = stays_first xs z s
stays_take (suc n) [] z s = s
stays_take (suc n) (x ∷ xs) z s =
    let t = both (all_in_range z) (stays_in_range xs (shift x z)) s in
    ap₂ ◌&&◌ t.0 (stays_take n xs (shift x z) t.1)

pub stays_last : (xs : List Step) (z : List ℤ) → stays_in_range xs z ≡ true → all_in_range (shift_all xs z) ≡ true
unfolding stays_in_range shift_all
stays_last [] z s = s
stays_last (x ∷ xs) z s = stays_last xs (shift x z) (both (all_in_range z) (stays_in_range xs (shift x z)) s).1

pub stays_everywhere : (xs : List Step) (z : List ℤ) → ((n : ℕ) → all_in_range (shift_all (take n xs) z) ≡ true) → stays_in_range xs z ≡ true
unfolding stays_in_range shift_all
stays_everywhere [] z at = at 0
stays_everywhere (x ∷ xs) z at = ap₂ ◌&&◌ (at 0) (stays_everywhere xs (shift x z) (λ n. at (suc n)))

-- ---- the steps xs take the exponents z to w, within c at every position

abbrev pub AllWithin : ℕ → List ℤ → Type 0
AllWithin c [] = Unit {0}
AllWithin c (e ∷ z) = Within c e × AllWithin c z

pub four_within : {l : ℕ} {c d e f : ℤ} → Within l c → Within l d → Within l e → Within l f → AllWithin l (c ∷ d ∷ e ∷ f ∷ [])
four_within vc vd ve vf = (vc, (vd, (ve, (vf, tt))))

pub data LeadsTo (c : ℕ) : List Step → List ℤ → List ℤ → Type 0 where
  goes_none : {z : List ℤ} → AllWithin c z → LeadsTo c [] z z
  goes_step : {x : Step} {xs : List Step} {z y w : List ℤ} → AllWithin c z → shift x z ≡ y → LeadsTo c xs y w → LeadsTo c (x ∷ xs) z w

pub goes_append : {c : ℕ} (xs : List Step) {ys : List Step} {z y w : List ℤ} → LeadsTo c xs z y → LeadsTo c ys y w → LeadsTo c (xs ++ ys) z w
goes_append [] (goes_none v) h = h
goes_append (x ∷ xs) (goes_step v e g) h = goes_step v e (goes_append xs g h)

goes_first : {c : ℕ} {xs : List Step} {z w : List ℤ} → LeadsTo c xs z w → AllWithin c z
goes_first (goes_none v) = v
goes_first (goes_step v e g) = v

pub goes_back : {c : ℕ} (xs : List Step) {z w : List ℤ} → AllSound xs → length z ≡ 4 → LeadsTo c xs z w → LeadsTo c (inverted xs) w z
unfolding inverted
goes_back [] a n (goes_none v) = goes_none v
goes_back (x ∷ xs) {z} a n (goes_step v e g) =
    goes_append (inverted xs) (goes_back xs a.1 (ap length (sym e) ∙ length_shift x z ∙ n) g)
    (goes_step (goes_first g) (ap (shift (inverse_step x)) (sym e) ∙ shift_inverse_step x z a.0 n) (goes_none v))

goes_shifts : {c : ℕ} (xs : List Step) {z w : List ℤ} → LeadsTo c xs z w → shift_all xs z ≡ w
unfolding shift_all
goes_shifts [] (goes_none v) = refl
goes_shifts (x ∷ xs) (goes_step v e g) = ap (shift_all xs) e ∙ goes_shifts xs g

-- from the exponents that a trace starts from, w is where it ends
pub goes_end : {c : ℕ} {xs : List Step} {w : List ℤ} → LeadsTo c xs start_exponents w → exponents_at xs (length xs) ≡ w
goes_end {xs = xs} g = ap (λ (l : List Step). shift_all l start_exponents) (take-length xs) ∙ goes_shifts xs g

-- in range, where c is
module _ {c : ℕ} (small : c ≤ 2 ^ 62) where
  all_range : (z : List ℤ) → AllWithin c z → all_in_range z ≡ true
  unfolding all_in_range
  all_range [] v = refl
  all_range (e ∷ z) v = ap₂ ◌&&◌ (within_range e (within_more small v.0)) (all_range z v.1)

  pub goes_stays : (xs : List Step) {z w : List ℤ} → LeadsTo c xs z w → stays_in_range xs z ≡ true
  unfolding stays_in_range
  goes_stays [] {z} (goes_none v) = all_range z v
  goes_stays (x ∷ xs) {z} (goes_step v e g) = ap₂ ◌&&◌ (all_range z v) (ap (stays_in_range xs) e ∙ goes_stays xs g)

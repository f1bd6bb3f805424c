-- Integers for `omega`: each is `over` less `under`, two natural numbers of which one is 0, and each law says what an operation or
-- a test makes of these two, by the cases of its signs.
use mathlib.Core.Path.{◌≡◌, refl, sym, ap, ◌∙◌}
use mathlib.Core.Bool.{true, false}
use Prim.Native.Nat.{ℕ, zero, suc, ◌+◌, ◌-◌, ◌≤◌, ◌<◌}
use native.Mathlib.Nat.{add-zero, zero-add}
use native.Mathlib.Decide.{dec_lt}
use native.Mathlib.Omega.{arith}
use lib.Dec.{leb, ltb, leb-suc-suc}
use lib.IntN.{ℤ, pos, negsuc, neg_ℤ, ◌+ℤ◌, ◌-ℤ◌, sub_ℕ}
use lib.Signed.{le_z, lt_z}
use borrow.Author.Tests.{ltb-true, ltb-false, leb-true, lt-ltb, le-ltb, le-leb, lt-leb}

abbrev pub over : ℤ → ℕ
over (pos n) = n
over (negsuc n) = 0

abbrev pub under : ℤ → ℕ
under (pos n) = 0
under (negsuc n) = suc n

-- integers with the same difference are the same
pub same : (a b : ℤ) → over a + under b ≡ over b + under a → a ≡ b
same (pos m) (pos n) e = ap pos (omega arith)
same (pos m) (negsuc n) e = absurd (omega arith)
same (negsuc m) (pos n) e = absurd (omega arith)
same (negsuc m) (negsuc n) e = ap negsuc (omega arith)

-- ---- a difference of natural numbers

over_difference : (m n : ℕ) → over (sub_ℕ m n) ≡ m - n
over_difference m n = elim (dec_lt m n) [ yes l ↦ rw (lt-ltb m n l) (omega arith) | no l ↦ rw (le-ltb m n (omega arith)) ]

under_difference : (m n : ℕ) → under (sub_ℕ m n) ≡ n - m
under_difference m n = elim (dec_lt m n) [ yes l ↦ rw (lt-ltb m n l) (omega arith) | no l ↦ rw (le-ltb m n (omega arith)) (omega arith) ]

-- ---- sums, opposites and differences

pub over_sum : (a b : ℤ) → over (a +ℤ b) ≡ over a + over b - (under a + under b)
over_sum (pos m) (pos n) = omega arith
over_sum (pos m) (negsuc n) = omega (arith, over_difference m (suc n))
over_sum (negsuc m) (pos n) = omega (arith, over_difference n (suc m))
over_sum (negsuc m) (negsuc n) = omega arith

pub under_sum : (a b : ℤ) → under (a +ℤ b) ≡ under a + under b - (over a + over b)
under_sum (pos m) (pos n) = omega arith
under_sum (pos m) (negsuc n) = omega (arith, under_difference m (suc n))
under_sum (negsuc m) (pos n) = omega (arith, under_difference n (suc m))
under_sum (negsuc m) (negsuc n) = omega arith

pub over_opposite : (a : ℤ) → over (neg_ℤ a) ≡ under a
over_opposite (pos zero) = refl
over_opposite (pos (suc n)) = refl
over_opposite (negsuc n) = refl

pub under_opposite : (a : ℤ) → under (neg_ℤ a) ≡ over a
under_opposite (pos zero) = refl
under_opposite (pos (suc n)) = refl
under_opposite (negsuc n) = refl

pub over_less : (a b : ℤ) → over (a -ℤ b) ≡ over a + under b - (under a + over b)
over_less a b = omega (arith, over_sum a (neg_ℤ b), over_opposite b, under_opposite b)

pub under_less : (a b : ℤ) → under (a -ℤ b) ≡ under a + over b - (over a + under b)
under_less a b = omega (arith, under_sum a (neg_ℤ b), over_opposite b, under_opposite b)

-- ---- the tests

le_z_is : (a b : ℤ) → le_z a b ≡ leb (over a + under b) (over b + under a)
le_z_is (pos m) (pos n) = rw (add-zero m, add-zero n)
le_z_is (pos m) (negsuc n) = sym (lt-leb (m + suc n) 0 (omega arith))
le_z_is (negsuc m) (pos n) = sym (le-leb 0 (n + suc m) (omega arith))
le_z_is (negsuc m) (negsuc n) = sym (rw (zero-add (suc m), zero-add (suc n)) (leb-suc-suc n m))

lt_z_is : (a b : ℤ) → lt_z a b ≡ ltb (over a + under b) (over b + under a)
lt_z_is (pos m) (pos n) = rw (add-zero m, add-zero n)
lt_z_is (pos m) (negsuc n) = sym (le-ltb (m + suc n) 0 (omega arith))
lt_z_is (negsuc m) (pos n) = sym (lt-ltb 0 (n + suc m) (omega arith))
lt_z_is (negsuc m) (negsuc n) = sym (rw (zero-add (suc m), zero-add (suc n)) (leb-suc-suc (suc n) m))

module _ (a b : ℤ) where
  pub le_le_z : over a + under b ≤ over b + under a → le_z a b ≡ true
  le_le_z h = le_z_is a b ∙ le-leb _ _ h

  pub le_z_true : le_z a b ≡ true → over a + under b ≤ over b + under a
  le_z_true e = leb-true _ _ (sym (le_z_is a b) ∙ e)

  pub lt_z_true : lt_z a b ≡ true → over a + under b < over b + under a
  lt_z_true e = ltb-true _ _ (sym (lt_z_is a b) ∙ e)

  pub lt_z_false : lt_z a b ≡ false → over b + under a ≤ over a + under b
  lt_z_false e = ltb-false _ _ (sym (lt_z_is a b) ∙ e)

-- a number moved from one side to the other
same_difference : (a b c d : ℕ) → a + d ≡ c + b → leb a b ≡ leb c d
same_difference a b c d e = elim (dec_lt b a) [
  | yes l ↦ lt-leb a b l ∙ sym (lt-leb c d (omega arith))
  | no l ↦ le-leb a b (omega arith) ∙ sym (le-leb c d (omega arith))
]

same_test : (a b c d : ℤ) → over a + under b + (over d + under c) ≡ over c + under d + (over b + under a) → le_z a b ≡ le_z c d
same_test a b c d e = le_z_is a b ∙ same_difference _ _ _ _ e ∙ sym (le_z_is c d)

module _ (a b m : ℤ) where
  pub most_less : le_z a (m -ℤ b) ≡ le_z (a +ℤ b) m
  most_less = same_test a (m -ℤ b) (a +ℤ b) m (omega (arith, over_less m b, under_less m b, over_sum a b, under_sum a b))

  pub least_less : le_z (m -ℤ b) a ≡ le_z m (a +ℤ b)
  least_less = same_test (m -ℤ b) a m (a +ℤ b) (omega (arith, over_less m b, under_less m b, over_sum a b, under_sum a b))

  pub most_more : le_z a (m +ℤ b) ≡ le_z (a -ℤ b) m
  most_more = same_test a (m +ℤ b) (a -ℤ b) m (omega (arith, over_sum m b, under_sum m b, over_less a b, under_less a b))

  pub least_more : le_z (m +ℤ b) a ≡ le_z m (a -ℤ b)
  least_more = same_test (m +ℤ b) a m (a -ℤ b) (omega (arith, over_sum m b, under_sum m b, over_less a b, under_less a b))

-- ---- from -m to m

pub record Within (m : ℕ) (a : ℤ) : Type 0 where
  pub high : over a ≤ m
  pub low : under a ≤ m

pub within_natural : {n : ℕ} (m : ℕ) → m ≤ n → Within n (pos m)
within_natural m h = record { high = h; low = omega arith }

pub within_less : {m n : ℕ} (a b : ℤ) → Within m a → Within n b → Within (m + n) (a -ℤ b)
within_less a b v w = record { high = omega (arith, over_less a b); low = omega (arith, under_less a b) }

pub within_more : {m n : ℕ} {a : ℤ} → m ≤ n → Within m a → Within n a
within_more h v = record { high = omega arith; low = omega arith }

-- The whole numbers are a ring: what lib.IntN lacks. Each law holds of 0, and of a number's neighbours where it holds of the number.
use mathlib.Core.Path.{◌≡◌, sym, ap, ◌∙◌}
use Prim.Native.Nat.{zero, suc}
use lib.IntN.{ℤ, pos, negsuc, suc_ℤ, pred_ℤ, neg_ℤ, ◌+ℤ◌, ◌*ℤ◌, +ℤ_idl, +ℤ_idr, +ℤ_assoc, +ℤ_comm, +ℤ_invr, +ℤ_invl, neg_ℤ-+ℤ, neg_ℤ-neg_ℤ, neg_ℤ-suc_ℤ, neg_ℤ-pred_ℤ, suc_ℤ-+ℤ, pred_ℤ-+ℤ, zero-*ℤ, suc_ℤ-*ℤ, pred_ℤ-*ℤ, *ℤ_comm}

-- up and down from 0
module _ (P : ℤ → Type 0) (at_zero : P (pos 0)) (up : (k : ℤ) → P k → P (suc_ℤ k)) (down : (k : ℤ) → P k → P (pred_ℤ k)) where
  every : (k : ℤ) → P k
  every (pos zero) = at_zero
  every (pos (suc n)) = up (pos n) (every (pos n))
  every (negsuc zero) = down (pos zero) at_zero
  every (negsuc (suc n)) = down (negsuc n) (every (negsuc n))

-- ---- sums

pub sum_left : (a b c : ℤ) → a +ℤ (b +ℤ c) ≡ b +ℤ (a +ℤ c)
sum_left a b c = sym (+ℤ_assoc a b c) ∙ ap (λ x. x +ℤ c) (+ℤ_comm a b) ∙ +ℤ_assoc b a c

pub cancel_left : (a b : ℤ) → a +ℤ (neg_ℤ a +ℤ b) ≡ b
cancel_left a b = sym (+ℤ_assoc a (neg_ℤ a) b) ∙ ap (λ x. x +ℤ b) (+ℤ_invr a) ∙ +ℤ_idl b

pub cancel_opposite : (a b : ℤ) → neg_ℤ a +ℤ (a +ℤ b) ≡ b
cancel_opposite a b = sym (+ℤ_assoc (neg_ℤ a) a b) ∙ ap (λ x. x +ℤ b) (+ℤ_invl a) ∙ +ℤ_idl b

-- a sum with its terms in one order and its brackets to the right
pub ruleset sums = (+ℤ_assoc, +ℤ_comm, sum_left, +ℤ_idl, +ℤ_idr, +ℤ_invr, +ℤ_invl, cancel_left, cancel_opposite, neg_ℤ-+ℤ, neg_ℤ-neg_ℤ)

-- ---- products

pub one_times : (a : ℤ) → pos 1 *ℤ a ≡ a
one_times a = suc_ℤ-*ℤ (pos 0) a ∙ simp (zero-*ℤ, +ℤ_idl)

pub sum_times : (a b c : ℤ) → (a +ℤ b) *ℤ c ≡ a *ℤ c +ℤ b *ℤ c
sum_times a b c =
    every (λ x. (x +ℤ b) *ℤ c ≡ x *ℤ c +ℤ b *ℤ c)
    (simp (+ℤ_idl, zero-*ℤ))
    (λ k h. simp (suc_ℤ-+ℤ, suc_ℤ-*ℤ, h) (simp sums))
    (λ k h. simp (pred_ℤ-+ℤ, pred_ℤ-*ℤ, h) (simp sums)) a

pub opposite_times : (a b : ℤ) → neg_ℤ a *ℤ b ≡ neg_ℤ (a *ℤ b)
opposite_times a b =
    every (λ x. neg_ℤ x *ℤ b ≡ neg_ℤ (x *ℤ b))
    (simp zero-*ℤ)
    (λ k h. simp (neg_ℤ-suc_ℤ, suc_ℤ-*ℤ, pred_ℤ-*ℤ, h, sums))
    (λ k h. simp (neg_ℤ-pred_ℤ, suc_ℤ-*ℤ, pred_ℤ-*ℤ, h, sums)) a

pub times_sum : (a b c : ℤ) → a *ℤ (b +ℤ c) ≡ a *ℤ b +ℤ a *ℤ c
times_sum a b c = *ℤ_comm a (b +ℤ c) ∙ sum_times b c a ∙ rw (*ℤ_comm b a, *ℤ_comm c a)

pub times_opposite : (a b : ℤ) → a *ℤ neg_ℤ b ≡ neg_ℤ (a *ℤ b)
times_opposite a b = *ℤ_comm a (neg_ℤ b) ∙ opposite_times b a ∙ ap neg_ℤ (*ℤ_comm b a)

times_assoc : (a b c : ℤ) → (a *ℤ b) *ℤ c ≡ a *ℤ (b *ℤ c)
times_assoc a b c =
    every (λ x. (x *ℤ b) *ℤ c ≡ x *ℤ (b *ℤ c))
    (simp zero-*ℤ)
    (λ k h. simp (suc_ℤ-*ℤ, sum_times, h))
    (λ k h. simp (pred_ℤ-*ℤ, sum_times, opposite_times, h)) a

pub times_left : (a b c : ℤ) → a *ℤ (b *ℤ c) ≡ b *ℤ (a *ℤ c)
times_left a b c = sym (times_assoc a b c) ∙ ap (λ x. x *ℤ c) (*ℤ_comm a b) ∙ times_assoc b a c

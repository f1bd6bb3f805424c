-- Integers congruent modulo r: a multiple of r added to each makes them the same. Each is congruent to its residue, and two
-- residues that are congruent are the same number, since both are below r.
use mathlib.Core.Path.{◌≡◌, refl, sym, ◌∙◌, ap}
use Prim.Native.Nat.{ℕ, suc, ◌+◌, ◌*◌, ◌/◌, ◌%◌, ◌<◌}
use native.Mathlib.Nat.{add-mul-mod_self_right, mod-add-div', mod-eq_of_lt, mod-lt}
use native.Mathlib.Omega.{arith}
use lib.IntN.{ℤ, pos, negsuc, ◌-ℤ◌}
use Rattle.machine.specs.Exponents.{residue_of}
use Rattle.machine.proofs.Laws.Integers.{over, under, over_less, under_less}

pub record Congruent (r : ℕ) (a b : ℤ) : Type 0 where
  pub left : ℕ
  pub right : ℕ
  pub meet : over a + under b + left * r ≡ over b + under a + right * r

module _ (r : ℕ) where
  pub congruent_same : (a b : ℤ) → a ≡ b → Congruent r a b
  congruent_same a b e = rw e (record { left = 0; right = 0; meet = refl })

  pub congruent_through : (a b c : ℤ) → Congruent r a b → Congruent r b c → Congruent r a c
  congruent_through a b c p q = record { left = p.left + q.left; right = p.right + q.right; meet = omega (arith, p.meet, q.meet) }

  pub congruent_back : (a b : ℤ) → Congruent r a b → Congruent r b a
  congruent_back a b p = record { left = p.right; right = p.left; meet = omega (arith, p.meet) }

  pub congruent_less : (a b c d : ℤ) → Congruent r a b → Congruent r c d → Congruent r (a -ℤ c) (b -ℤ d)
  congruent_less a b c d p q = record {
    left = p.left + q.right;
    right = p.right + q.left;
    meet = omega (arith, p.meet, q.meet, over_less a c, under_less a c, over_less b d, under_less b d);
  }

  -- natural numbers that leave the same
  pub congruent_naturals : (m n : ℕ) → m % r ≡ n % r → Congruent r (pos m) (pos n)
  congruent_naturals m n e = record { left = n / r; right = m / r; meet = omega (arith, mod-add-div' m r, mod-add-div' n r) }

  naturals_congruent : (m n : ℕ) → Congruent r (pos m) (pos n) → m % r ≡ n % r
  naturals_congruent m n p =
      sym (add-mul-mod_self_right m p.left r)
      ∙ ap (λ (x : ℕ). x % r) (omega (arith, p.meet))
      ∙ add-mul-mod_self_right n p.right r

  module _ (some : 0 < r) where
    residue_below : (a : ℤ) → residue_of r a < r
    unfolding residue_of
    residue_below (pos m) = mod-lt m some
    residue_below (negsuc m) = omega arith

    residue_congruent : (a : ℤ) → Congruent r a (pos (residue_of r a))
    unfolding residue_of
    residue_congruent (pos m) = record { left = 0; right = m / r; meet = omega (arith, mod-add-div' m r) }
    residue_congruent (negsuc m) = record { left = suc (m / r); right = 0; meet = omega (arith, mod-add-div' m r, mod-lt m some) }

    -- the residue, by what an integer is congruent to
    pub residue_is : (a : ℤ) (n : ℕ) → n < r → Congruent r a (pos n) → residue_of r a ≡ n
    residue_is a n h p =
        sym (mod-eq_of_lt (residue_below a))
        ∙ naturals_congruent (residue_of r a) n (congruent_through (pos (residue_of r a)) a (pos n) (congruent_back a (pos (residue_of r a)) (residue_congruent a)) p)
        ∙ mod-eq_of_lt h

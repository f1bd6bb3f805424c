-- The residues 1 to p - 1 of a prime p are a group under the product modulo p: none shares a factor with p, so each has an inverse.
use mathlib.Core.Path.{◌≡◌, sym, ◌∙◌, ap, ap₂}
use mathlib.Core.Logic.{⊎_elim}
use Prim.Native.Nat.{ℕ, ◌*◌, ◌%◌}
use native.Mathlib.Nat.{eq-or-lt_of_le, eq-zero-or-pos, le_of_dvd, mod-lt, pos_of_dvd_of_pos}
use native.Mathlib.Omega.{arith}
use Rattle.modular.specs.Primes.{Prime}
use Rattle.modular.specs.Residues.{Residue, times}
use Rattle.modular.specs.Inverses.{Coprime, Inverse, inverse}
use Rattle.modular.proofs.Laws.Residues.{times_is, times_comm, times_assoc, times_one, zero_times}
use Rattle.modular.proofs.Laws.Inverses.{inverse_is, inverse_exists}

-- what leaves 1 is the inverse
pub inverse_only : (p x y : ℕ) → Residue p y → times p x y ≡ 1 → inverse p x ≡ y
inverse_only p x y ry e =
    inverse_is p x y (record { low = ry.low; high = ry.high; one = sym (times_is p x y (omega (arith, ry.high))) ∙ e })

module _ (p : ℕ) (pr : Prime p) where
  pub times_prime : (x y : ℕ) → times p x y ≡ x * y % p
  times_prime x y = times_is p x y (omega (arith, pr.least))

  pub residue_one : Residue p 1
  residue_one = record { low = omega arith; high = pr.least }

  pub coprime_residue : (x : ℕ) → Residue p x → Coprime x p
  coprime_residue x r =
      record {
        only = λ d dx dp.
            ⊎_elim
            (λ e. sym e)
            (λ big. absurd (pr.only d big (omega (arith, le_of_dvd r.low dx, r.high)) dp))
            (eq-or-lt_of_le (pos_of_dvd_of_pos dx r.low));
      }

  pub inverse_prime : (x : ℕ) → Residue p x → Inverse p x (inverse p x)
  inverse_prime x r = inverse_exists p x pr.least (coprime_residue x r)

  pub residue_inverse : (x : ℕ) → Residue p x → Residue p (inverse p x)
  residue_inverse x r = let v = inverse_prime x r in record { low = v.low; high = v.high }

  pub times_inverse : (x : ℕ) → Residue p x → times p x (inverse p x) ≡ 1
  times_inverse x r = times_prime x (inverse p x) ∙ (inverse_prime x r).one

  pub inverse_times : (x : ℕ) → Residue p x → times p (inverse p x) x ≡ 1
  inverse_times x r = times_comm p (inverse p x) x ∙ times_inverse x r

  pub mul_div : (y x : ℕ) → Residue p y → Residue p x → times p (times p y x) (inverse p x) ≡ y
  mul_div y x ry rx = times_assoc p y x (inverse p x) ∙ ap (times p y) (times_inverse x rx) ∙ times_one p y ry

  pub div_mul : (y x : ℕ) → Residue p y → Residue p x → times p (times p y (inverse p x)) x ≡ y
  div_mul y x ry rx = times_assoc p y (inverse p x) x ∙ ap (times p y) (inverse_times x rx) ∙ times_one p y ry

  pub residue_times : (y x : ℕ) → Residue p y → Residue p x → Residue p (times p y x)
  residue_times y x ry rx =
      record {
        low = ⊎_elim (λ e. absurd (omega (arith, ry.low, zero e))) (λ some. some) (eq-zero-or-pos (times p y x));
        high = rw (times_prime y x) (mod-lt (y * x) (omega (arith, pr.least)));
      }
    where
      zero : times p y x ≡ 0 → y ≡ 0
      zero e = sym (mul_div y x ry rx) ∙ ap (λ (n : ℕ). times p n (inverse p x)) e ∙ zero_times p (inverse p x)

  pub inverse_inverse : (x : ℕ) → Residue p x → inverse p (inverse p x) ≡ x
  inverse_inverse x r = inverse_only p (inverse p x) x r (inverse_times x r)

  pub inverse_one : inverse p 1 ≡ 1
  inverse_one = inverse_only p 1 1 residue_one (times_one p 1 residue_one)

  pub inverse_product : (x y : ℕ) → Residue p x → Residue p y → inverse p (times p x y) ≡ times p (inverse p x) (inverse p y)
  inverse_product x y rx ry =
      let a : ℕ = inverse p x in
      let b : ℕ = inverse p y in
      let ra : Residue p a = residue_inverse x rx in
      inverse_only p (times p x y) (times p a b) (residue_times a b ra (residue_inverse y ry))
      (ap₂ (times p) (times_comm p x y) (times_comm p a b)
      ∙ sym (times_assoc p (times p y x) b a)
      ∙ ap (λ (n : ℕ). times p (times p n b) a) (times_comm p y x)
      ∙ ap (λ (n : ℕ). times p n a) (mul_div x y rx ry)
      ∙ times_inverse x rx)

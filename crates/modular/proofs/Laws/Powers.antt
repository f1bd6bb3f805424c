-- Powers modulo p: the base may be reduced, and where a ^ r leaves 1 so may the exponent, modulo r.
use mathlib.Core.Path.{◌≡◌, sym, ◌∙◌, ap, subst}
use Prim.Native.Nat.{ℕ, zero, suc, ◌+◌, ◌*◌, ◌/◌, ◌%◌, ◌^◌}
use native.Mathlib.Nat.{mod-add-div', mod-eq_of_lt, mod-mod, mul_comm, mul-one, mul-suc, mul-zero, one-mul, pow-suc, pow-zero}
use lib.Pow.{pow-add}
use Rattle.modular.specs.Primes.{Prime}
use Rattle.modular.specs.Residues.{Residue, times}
use Rattle.modular.proofs.Laws.Residues.{mul_mod_left, mul_mod_right}
use Rattle.modular.proofs.Laws.Group.{times_prime, residue_one, residue_times}

-- a product of powers, its factors reduced
reduced : (p a m n : ℕ) → (a ^ m % p) * (a ^ n % p) % p ≡ a ^ (m + n) % p
reduced p a m n =
    mul_mod_left (a ^ m) (a ^ n % p) p ∙ mul_mod_right (a ^ m) (a ^ n) p ∙ ap (λ (x : ℕ). x % p) (sym (pow-add a m n))

pub pow_mul : (a m n : ℕ) → (a ^ m) ^ n ≡ a ^ (m * n)
pow_mul a m zero = pow-zero (a ^ m) ∙ sym (ap (λ (x : ℕ). a ^ x) (mul-zero m) ∙ pow-zero a)
pow_mul a m (suc n) =
    pow-suc (a ^ m) n
    ∙ ap (λ (x : ℕ). x * a ^ m) (pow_mul a m n)
    ∙ sym (ap (λ (x : ℕ). a ^ x) (mul-suc m n) ∙ pow-add a (m * n) m)

pub pow_mod : (p a n : ℕ) → (a % p) ^ n % p ≡ a ^ n % p
pow_mod p a zero = ap (λ (x : ℕ). x % p) (pow-zero (a % p) ∙ sym (pow-zero a))
pow_mod p a (suc n) =
    ap (λ (x : ℕ). x % p) (pow-suc (a % p) n)
    ∙ mul_mod_right ((a % p) ^ n) a p
    ∙ sym (mul_mod_left ((a % p) ^ n) a p)
    ∙ ap (λ (x : ℕ). x * a % p) (pow_mod p a n)
    ∙ mul_mod_left (a ^ n) a p
    ∙ ap (λ (x : ℕ). x % p) (sym (pow-suc a n))

pub pow_pow : (p a m n : ℕ) → (a ^ m % p) ^ n % p ≡ a ^ (m * n) % p
pow_pow p a m n = pow_mod p (a ^ m) n ∙ ap (λ (x : ℕ). x % p) (pow_mul a m n)

pub one_pow : (n : ℕ) → 1 ^ n ≡ 1
one_pow zero = pow-zero 1
one_pow (suc n) = pow-suc 1 n ∙ mul-one (1 ^ n) ∙ one_pow n

pub pow_one : (a : ℕ) → a ^ 1 ≡ a
pow_one a = pow-suc a 0 ∙ ap (λ (x : ℕ). x * a) (pow-zero a) ∙ one-mul a

-- where a ^ r leaves 1, the exponent may be reduced modulo r
pub pow_order : (p a r n : ℕ) → a ^ r % p ≡ 1 → a ^ (n % r) % p ≡ a ^ n % p
pow_order p a r n h =
    let one : a ^ (n / r * r) % p ≡ 1 =
    ap (λ (x : ℕ). a ^ x % p) (mul_comm (n / r) r)
    ∙ sym (pow_pow p a r (n / r))
    ∙ ap (λ (x : ℕ). x ^ (n / r) % p) h
    ∙ ap (λ (x : ℕ). x % p) (one_pow (n / r))
    ∙ ap (λ (x : ℕ). x % p) (sym h)
    ∙ mod-mod (a ^ r) p
    ∙ h in
    sym
    (ap (λ (x : ℕ). a ^ x % p) (sym (mod-add-div' n r))
    ∙ sym (reduced p a (n % r) (n / r * r))
    ∙ ap (λ (x : ℕ). (a ^ (n % r) % p) * x % p) one
    ∙ ap (λ (x : ℕ). x % p) (mul-one (a ^ (n % r) % p))
    ∙ mod-mod (a ^ (n % r)) p)

pub pow_congruent : (p a r m n : ℕ) → a ^ r % p ≡ 1 → m % r ≡ n % r → a ^ m % p ≡ a ^ n % p
pow_congruent p a r m n h e = sym (pow_order p a r m h) ∙ ap (λ (x : ℕ). a ^ x % p) e ∙ pow_order p a r n h

module _ (p : ℕ) (pr : Prime p) where
  pub power_zero : (a : ℕ) → a ^ 0 % p ≡ 1
  power_zero a = ap (λ (x : ℕ). x % p) (pow-zero a) ∙ mod-eq_of_lt pr.least

  pub power_one : (a : ℕ) → Residue p a → a ^ 1 % p ≡ a
  power_one a ra = ap (λ (x : ℕ). x % p) (pow_one a) ∙ mod-eq_of_lt ra.high

  -- a power of a base whose r-th power is 1 is another
  pub order_power : (a r k : ℕ) → a ^ r % p ≡ 1 → (a ^ k % p) ^ r % p ≡ 1
  order_power a r k ord =
      pow_pow p a k r
      ∙ ap (λ (x : ℕ). a ^ x % p) (mul_comm k r)
      ∙ sym (pow_pow p a r k)
      ∙ ap (λ (x : ℕ). x ^ k % p) ord
      ∙ ap (λ (x : ℕ). x % p) (one_pow k)
      ∙ mod-eq_of_lt pr.least

  pub times_pow : (a m n : ℕ) → times p (a ^ m % p) (a ^ n % p) ≡ a ^ (m + n) % p
  times_pow a m n = times_prime p pr (a ^ m % p) (a ^ n % p) ∙ reduced p a m n

  pub residue_pow : (a n : ℕ) → Residue p a → Residue p (a ^ n % p)
  residue_pow a zero ra = rw (pow-zero a, mod-eq_of_lt pr.least) (residue_one p pr)
  residue_pow a (suc n) ra =
      subst (Residue p) (times_prime p pr (a ^ n % p) a ∙ mul_mod_left (a ^ n) a p ∙ ap (λ (x : ℕ). x % p) (sym (pow-suc a n)))
      (residue_times p pr (a ^ n % p) a (residue_pow a n ra) ra)

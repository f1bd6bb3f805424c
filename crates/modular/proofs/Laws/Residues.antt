-- Products modulo m: a factor may be reduced first, since what is left out is a multiple of m.
use mathlib.Core.Path.{◌≡◌, refl, sym, ◌∙◌, ap}
use Prim.Native.Nat.{ℕ, zero, suc, ◌+◌, ◌*◌, ◌/◌, ◌%◌, ◌<◌}
use native.Mathlib.Nat.{add-mul-mod_self_right, mod-add-div', mod-eq_of_lt, mul_assoc, mul_comm, mul-one, one-mul, zero-mod, zero-mul}
use native.Mathlib.Omega.{arith}
use Rattle.modular.specs.Residues.{Residue, times, remainder}

pub mul_mod_left : (a b m : ℕ) → (a % m * b) % m ≡ a * b % m
mul_mod_left a b m =
    let whole : a * b ≡ a % m * b + a / m * b * m = omega (arith, ap (λ (n : ℕ). n * b) (mod-add-div' a m)) in
    sym (ap (λ (n : ℕ). n % m) whole ∙ add-mul-mod_self_right (a % m * b) (a / m * b) m)

pub mul_mod_right : (a b m : ℕ) → (a * (b % m)) % m ≡ a * b % m
mul_mod_right a b m =
    ap (λ (n : ℕ). n % m) (mul_comm a (b % m)) ∙ mul_mod_left b a m ∙ ap (λ (n : ℕ). n % m) (mul_comm b a)

-- where m = K n and k K = 1 modulo r, k m = n
pub unscaled : (r k K m n : ℕ) → k * K % r ≡ 1 → m % r ≡ K * n % r → k * m % r ≡ n % r
unscaled r k K m n inv e =
    sym (mul_mod_right k m r)
    ∙ ap (λ (x : ℕ). k * x % r) e
    ∙ mul_mod_right k (K * n) r
    ∙ ap (λ (x : ℕ). x % r) (sym (mul_assoc k K n))
    ∙ sym (mul_mod_left (k * K) n r)
    ∙ ap (λ (x : ℕ). x * n % r) inv
    ∙ ap (λ (x : ℕ). x % r) (one-mul n)

pub remainder_zero : (n m : ℕ) → m ≡ 0 → remainder n m ≡ 0
unfolding remainder
remainder_zero n zero e = refl
remainder_zero n (suc m) e = absurd (omega arith)

pub remainder_is : (n m : ℕ) → 0 < m → remainder n m ≡ n % m
unfolding remainder
remainder_is n zero some = absurd (omega arith)
remainder_is n (suc m) some = refl

pub times_is : (p x y : ℕ) → 0 < p → times p x y ≡ x * y % p
unfolding times
times_is p x y some = remainder_is (x * y) p some

pub times_comm : (p x y : ℕ) → times p x y ≡ times p y x
unfolding times
times_comm p x y = ap (λ (n : ℕ). remainder n p) (mul_comm x y)

pub times_assoc : (p x y z : ℕ) → times p (times p x y) z ≡ times p x (times p y z)
unfolding times remainder
times_assoc zero x y z = refl
times_assoc (suc p) x y z =
    mul_mod_left (x * y) z (suc p) ∙ ap (λ (n : ℕ). n % suc p) (mul_assoc x y z) ∙ sym (mul_mod_right x (y * z) (suc p))

pub times_one : (p x : ℕ) → Residue p x → times p x 1 ≡ x
times_one p x r = times_is p x 1 (omega (arith, r.high)) ∙ ap (λ (n : ℕ). n % p) (mul-one x) ∙ mod-eq_of_lt r.high

pub zero_times : (p x : ℕ) → times p 0 x ≡ 0
unfolding times remainder
zero_times zero x = refl
zero_times (suc p) x = ap (λ (n : ℕ). n % suc p) (zero-mul x) ∙ zero-mod (suc p)

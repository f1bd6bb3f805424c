-- Montgomery's reduction leaves what it was given, divided by 2^32 modulo p, and 2^32 may be cancelled. So forms multiply as the
-- numbers do that they stand for.
use mathlib.Core.Path.{◌≡◌, refl, sym, ◌∙◌, ap, ap₂}
use mathlib.Core.Bool.{Bool, true, false, cond}
use Prim.Native.Nat.{ℕ, ◌+◌, ◌-◌, ◌*◌, ◌/◌, ◌%◌, ◌≤◌, ◌<◌}
use native.Mathlib.Nat.{add-mod-mod, add-mul-mod_self_right, mod-add-div', mod-eq_of_lt, mod-lt, mod-mod, mul_assoc, mul_comm, mul-le-mul_left, mul-le-mul_right, mul-lt-mul_of_pos_right, mul-one, zero-mod}
use native.Mathlib.Omega.{arith}
use lib.Dec.{ltb}
use borrow.Author.Tests.{ltb-true, ltb-false}
use Rattle.modular.specs.Residues.{times}
use Rattle.modular.specs.Inverses.{inverse}
use Rattle.modular.proofs.Laws.Residues.{mul_mod_left, mul_mod_right, remainder_is, times_is}
use Rattle.modular.proofs.Laws.Inverses.{inverse_most}
use Rattle.montgomery.specs.declared.Modulus.{Modulus}
use Rattle.montgomery.specs.Inner.Forms.{word, form_of, square_of, IsModulus, multiple_of, reduction, form_times, enter, leave, form_inverse}
use Rattle.montgomery.proofs.Laws.Newton.{word_inverse_lem}

pub form_zero : (p : ℕ) → form_of p 0 ≡ 0
unfolding form_of
form_zero p = zero-mod p

-- without a condition on q, so that the reduction is defined for every modulus
pub multiple_most : (p q t : ℕ) → multiple_of p q t ≤ p
multiple_most p q t =
    let u : ℕ = t % word * q % word in
    let less : u < word = mod-lt (t % word * q) {m = word} (omega arith) in
    omega (arith, mul-le-mul_right {m = u} {n = word} p (omega arith))

-- r is t divided by 2^32 modulo p
record Reduced (p t r : ℕ) : Type 0 where
  pub below : t < p * word → r < p
  pub scaled : r * word % p ≡ t % p

module _ (p q : ℕ) (some : 0 < p) (fits : p ≤ word) (one : p * q % word ≡ 1) where
  module _ (t : ℕ) where
    abbrev low : ℕ
    low = t % word * q % word

    same_low : low * p % word ≡ t % word
    same_low =
        mul_mod_left (t % word * q) p word
        ∙ ap (λ (n : ℕ). n % word) (mul_assoc (t % word) q p)
        ∙ sym (mul_mod_right (t % word) (q * p) word)
        ∙ ap (λ (n : ℕ). t % word * n % word) (ap (λ (n : ℕ). n % word) (mul_comm q p) ∙ one)
        ∙ ap (λ (n : ℕ). n % word) (mul-one (t % word))
        ∙ mod-mod t word

    multiples : (r c : ℕ) → r * word + low * p ≡ t + c * p → r * word % p ≡ t % p
    multiples r c e = sym (add-mul-mod_self_right (r * word) low p) ∙ ap (λ (n : ℕ). n % p) e ∙ add-mul-mod_self_right t c p

    reduced : Reduced p t (reduction p q t)
    unfolding reduction
    reduced = go (ltb (t / word) (multiple_of p q t)) refl
      where
        go : (b : Bool) → ltb (t / word) (multiple_of p q t) ≡ b
            → Reduced p t (cond b (t / word + (p - multiple_of p q t)) (t / word - multiple_of p q t))
        go true e =
            let less : t / word < multiple_of p q t = ltb-true _ _ e in
            let most = multiple_most p q t in
            record { below = λ _. omega arith; scaled = multiples (t / word + (p - multiple_of p q t)) word (omega (arith, same_low)) }
        go false e =
            let more : multiple_of p q t ≤ t / word = ltb-false _ _ e in
            record { below = λ l. omega arith; scaled = multiples (t / word - multiple_of p q t) 0 (omega (arith, same_low)) }

  -- 2^32 is cancelled: with p q = 1 + 2^32 k both r and s are r + s + 2^32 k r modulo p
  cancelled : (r s : ℕ) → r < p → s < p → r * word % p ≡ s * word % p → r ≡ s
  cancelled r s hr hs e =
      let k : ℕ = p * q / word in
      let whole : p * q ≡ 1 + word * k = omega (arith, one) in
      let scaled : r * word * k % p ≡ s * word * k % p =
      sym (mul_mod_left (r * word) k p) ∙ ap (λ (n : ℕ). n * k % p) e ∙ mul_mod_left (s * word) k p in
      let one_way : r + s * q * p ≡ r + s + s * word * k = omega (arith, ap (λ (n : ℕ). s * n) whole) in
      let other : s + r * q * p ≡ r + s + r * word * k = omega (arith, ap (λ (n : ℕ). r * n) whole) in
      sym (mod-eq_of_lt hr)
      ∙ sym (add-mul-mod_self_right r (s * q) p)
      ∙ ap (λ (n : ℕ). n % p) one_way
      ∙ sym (add-mod-mod (r + s) (s * word * k) p)
      ∙ ap (λ (n : ℕ). (r + s + n) % p) (sym scaled)
      ∙ add-mod-mod (r + s) (r * word * k) p
      ∙ ap (λ (n : ℕ). n % p) (sym other)
      ∙ add-mul-mod_self_right s (r * q) p
      ∙ mod-eq_of_lt hs

  -- what is t, divided by 2^32, is the reduction
  reduction_is : (t s : ℕ) → t < p * word → s < p → s * word % p ≡ t % p → reduction p q t ≡ s
  reduction_is t s small below e = cancelled (reduction p q t) s ((reduced t).below small) below ((reduced t).scaled ∙ sym e)

module _ (p : ℕ) (m : Modulus) (odd : p % 2 ≡ 1) (fits : p ≤ word) (is : IsModulus p m) where
  some : 0 < p
  some = omega arith

  reduction_modulus : (t s : ℕ) → t < p * word → s < p → s * word % p ≡ t % p → reduction m.value m.inverse t ≡ s
  reduction_modulus t s small below e =
      ap₂ (λ (n q : ℕ). reduction n q t) is.value_is is.inverse_is
      ∙ reduction_is p _ some fits (word_inverse_lem p odd) t s small below e

  -- the form of a product is the product of the forms
  pub form_times_lem : (x y : ℕ) → form_times m (form_of p x) (form_of p y) ≡ form_of p (times p x y)
  unfolding form_times form_of
  form_times_lem x y =
      let hx : x * word % p < p = mod-lt (x * word) some in
      let hy : y * word % p < p = mod-lt (y * word) some in
      let less : x * word % p * (y * word % p) < p * word = omega (arith, mul-le-mul_left {m = y * word % p} {n = word} (x * word % p) (omega arith)) in
      reduction_modulus (x * word % p * (y * word % p)) (times p x y * word % p) less (mod-lt (times p x y * word) some)
      (mul_mod_left (times p x y * word) word p
      ∙ ap (λ (n : ℕ). n * word * word % p) (times_is p x y some)
      ∙ ap (λ (n : ℕ). n % p) (mul_assoc (x * y % p) word word)
      ∙ mul_mod_left (x * y) (word * word) p
      ∙ ap (λ (n : ℕ). n % p) (omega arith)
      ∙ sym (mul_mod_left (x * word) (y * word % p) p ∙ mul_mod_right (x * word) (y * word) p))

  square_word : m.square % p ≡ word * word % p
  unfolding square_of
  square_word =
      let whole : 18446744073709551615 % p + 1 + 18446744073709551615 / p * p ≡ word * word = omega (arith, mod-add-div' 18446744073709551615 p) in
      ap (λ (n : ℕ). n % p) (is.square_is ∙ ap (λ (n : ℕ). n + 1) (remainder_is 18446744073709551615 p some))
      ∙ sym (add-mul-mod_self_right (18446744073709551615 % p + 1) (18446744073709551615 / p) p)
      ∙ ap (λ (n : ℕ). n % p) whole

  square_most : m.square ≤ p
  unfolding square_of
  square_most = omega (arith, is.square_is, remainder_is 18446744073709551615 p some, mod-lt 18446744073709551615 some)

  pub enter_form : (x : ℕ) → x < word → enter m x ≡ form_of p x
  unfolding enter form_times form_of
  enter_form x small =
      let less : x * m.square < p * word = omega (arith, mul-le-mul_left {m = m.square} {n = p} x square_most, mul-lt-mul_of_pos_right small some) in
      reduction_modulus (x * m.square) (x * word % p) less (mod-lt (x * word) some)
      (mul_mod_left (x * word) word p
      ∙ ap (λ (n : ℕ). n % p) (mul_assoc x word word)
      ∙ sym (mul_mod_right x (word * word) p)
      ∙ ap (λ (n : ℕ). x * n % p) (sym square_word)
      ∙ mul_mod_right x m.square p)

  pub leave_form : (x : ℕ) → leave m (form_of p x) ≡ x % p
  unfolding leave form_of
  leave_form x =
      let hx : x * word % p < p = mod-lt (x * word) some in
      reduction_modulus (x * word % p) (x % p) (omega arith) (mod-lt x some) (mul_mod_left x word p ∙ sym (mod-mod (x * word) p))

  pub inverse_form : (x : ℕ) → x < p → form_inverse m (form_of p x) ≡ form_of p (inverse p x)
  unfolding form_inverse
  inverse_form x small =
      ap (enter m) (ap₂ inverse is.value_is (leave_form x ∙ mod-eq_of_lt small))
      ∙ enter_form (inverse p x) (omega (arith, inverse_most p x))

-- `power` meets its contract: an even modulus has no form, and of an odd one the power leaves it.
use Rattle.std.proofs.Common.{ℕ, ◌≡◌, ◌*◌, ◌%◌, ◌<◌, ◌∙◌, ap, refl, sym, rules}
use native.Mathlib.Omega.{arith}
use Rattle.modular.specs.Residues.{remainder, times}
use Rattle.modular.proofs.Laws.Residues.{mul_mod_left, mul_mod_right, remainder_zero, remainder_is}
use Rattle.montgomery.specs.Inner.Forms.{word, form_of, form_times, leave}
use Rattle.montgomery.proofs.Laws.Forms.{enter_form, form_times_lem, leave_form}
use Rattle.montgomery.proofs.power.Goals as goal

pub returns-then-m-eq0 : goal.returns-then-m-eq0
returns-then-m-eq0 c = sym (remainder_zero _ _ c.if-m-eq0.true)

pub returns-then-m-eq0-2 : goal.returns-then-m-eq0-2
returns-then-m-eq0-2 c =
    let m = c.args.m in
    let some : 0 < m = omega arith in
    c.power_by.ensures.of (λ (x : ℕ). x % m)
    (record {
      times = λ x y r hx hy p.
          let is : r ≡ remainder (x % m * (y % m)) m = search rules in
          is ∙ remainder_is _ m some ∙ mul_mod_left x (y % m) m ∙ mul_mod_right x y m;
    })
    c.args.base refl refl
    ∙ sym (remainder_is _ m some)

-- what a product leaves modulo p has its form
form_product : (p x y : ℕ) → 0 < p → form_of p (times p x y) ≡ form_of p (x * y)
unfolding form_of times
form_product p x y some = ap (λ (n : ℕ). n * word % p) (remainder_is (x * y) p some) ∙ mul_mod_left (x * y) word p

pub returns : goal.returns
returns c =
    let p = c.args.m in
    let m = c.new-modulus.result in
    let is = c.new-modulus.ensures in
    let odd : p % 2 ≡ 1 = omega (arith, c.if-m-eq0-2.false) in
    c.leave.ensures
    ∙ ap (leave m)
    (c.power_by-form.ensures.of (form_of p)
    (record {
      times = λ x y r hx hy post.
          let product : r ≡ form_times m (form_of p x) (form_of p y) = search rules in
          product ∙ form_times_lem p m odd (omega arith) is x y ∙ form_product p x y (omega arith);
    })
    c.args.base
    (c.enter.ensures ∙ enter_form p m odd (omega arith) is 1 (omega arith))
    (c.enter-2.ensures ∙ enter_form p m odd (omega arith) is c.args.base (omega arith)))
    ∙ leave_form p m odd (omega arith) is _
    ∙ sym (remainder_is _ p (omega arith))

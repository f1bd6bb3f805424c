-- The inverse service by its tests: the order is refused first, then the exponent; where neither is, the answer is the inverse.
use mathlib.Core.Path.{◌≡◌, ◌∙◌}
use mathlib.Core.Bool.{true, false}
use Prim.Native.Nat.{ℕ, ◌*◌, ◌-◌, ◌%◌, ◌≤◌, ◌<◌}
use native.Mathlib.Omega.{arith}
use lib.Dec.{eqb}
use borrow.Author.Tests.{lt-ltb, le-ltb, ltb-false}
use Rattle.refusal.specs.declared.Refusal.TheVariants.{Order, Exponent}
use Rattle.refusal.specs.Refusals.{number_of}
use Rattle.refusal.specs.Outcomes.{refused, answered, gives, passes, answers}
use Rattle.refusal.proofs.Laws.Rules.{passed, answer_is}
use Rattle.modular.specs.Inverses.{inverse, bad_exponent, inverse_outcome}
use Rattle.divisors.proofs.Laws.Search.{greatest_at_most}

pub order_refused : (k r : ℕ) → r < 2 → inverse_outcome k r ≡ refused (number_of Order)
unfolding inverse_outcome
order_refused k r small = gives _ _ _ (lt-ltb r 2 small)

-- an answer is below r
pub inverse_below : (k r : ℕ) {n : ℕ} → inverse_outcome k r ≡ answered n → n < r
unfolding inverse_outcome inverse
inverse_below k r e =
    omega (
      arith,
      answer_is _ (inverse r k) e,
      ltb-false r 2 (passed _ _ _ _ _ e).0,
      greatest_at_most (λ (y : ℕ). eqb (k * y % r) 1) (r - 1),
    )

module _ (k r : ℕ) (two : 2 ≤ r) where
  pub exponent_refused : bad_exponent k r ≡ true → inverse_outcome k r ≡ refused (number_of Exponent)
  unfolding inverse_outcome
  exponent_refused bad = passes _ _ _ (le-ltb r 2 two) ∙ gives _ _ _ bad

  pub inverse_answered : bad_exponent k r ≡ false → inverse_outcome k r ≡ answered (inverse r k)
  unfolding inverse_outcome
  inverse_answered good = passes _ _ _ (le-ltb r 2 two) ∙ passes _ _ _ good ∙ answers _

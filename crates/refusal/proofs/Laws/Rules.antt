-- Lists of refusals: rules behind others only count where those refuse nothing, and a call that is answered has passed each rule.
use mathlib.Core.Path.{◌≡◌, refl, ◌∙◌}
use mathlib.Core.Logic.{◌⊎◌, inl, inr}
use mathlib.Core.Bool.{Bool, true, false}
use mathlib.Core.List.{List, [], ◌∷◌, ◌++◌}
use Prim.Native.Nat.{ℕ, ◌≤◌}
use native.Mathlib.Omega.{arith}
use Rattle.refusal.specs.declared.Refusal.{Refusal}
use Rattle.refusal.specs.declared.Refusal.TheVariants.{Modulus, Order, Exponent, Variant, Room, Length, Word, Mismatch, Register, Position, Base, Range, Index, Count}
use Rattle.refusal.specs.Refusals.{number_of}
use Rattle.refusal.specs.Outcomes.{Outcome, Rule, refused, answered, outcome, applies, refusal_number, and_then, after, ◌given_if◌}

-- a call that is answered has passed its first rule
pub passed : {A : Type 0} (t : Bool) (e : Refusal) (rules : List Rule) (x y : A) → outcome ((e given_if t) ∷ rules) x ≡ answered y
    → (t ≡ false) × (outcome rules x ≡ answered y)
unfolding outcome
passed true e rules x y a = let z : ◌≡◌ {A = ℕ} 0 1 = cc in absurd (omega arith)
passed false e rules x y a = (refl, a)

-- a call that its only rule refuses
pub refused_by : {A : Type 0} (t : Bool) (e : Refusal) (x : A) {n : ℕ} → outcome ((e given_if t) ∷ []) x ≡ refused n → (t ≡ true) × (number_of e ≡ n)
unfolding outcome
refused_by true e x a = (refl, cc)
refused_by false e x a = let z : ◌≡◌ {A = ℕ} 0 1 = cc in absurd (omega arith)

-- an answer that is made of another, by the same rules
pub made_of : {A B : Type 0} (f : A → B) (x : A) (rules : List Rule) → outcome rules (f x) ≡ and_then (outcome rules x) (λ z. answered (f z))
unfolding outcome
made_of f x [] = refl
made_of f x ((e given_if true) ∷ rules) = refl
made_of f x ((e given_if false) ∷ rules) = made_of f x rules

module _ {A B : Type 0} (x : A) (y : B) where
  -- the same rules with another answer
  alone : (rules : List Rule) → outcome rules y ≡ and_then (outcome rules x) (λ z. answered y)
  alone = made_of (λ z. y) x

  -- rules behind others
  pub behind : (front more : List Rule) → outcome (front ++ more) y ≡ and_then (outcome front x) (λ z. outcome more y)
  unfolding outcome
  behind [] more = refl
  behind ((e given_if true) ∷ front) more = refl
  behind ((e given_if false) ∷ front) more = behind front more

  pub still_refused : (rules : List Rule) {n : ℕ} → outcome rules x ≡ refused n → outcome rules y ≡ refused n
  still_refused rules e = alone rules ∙ rw e

  pub still_answered : (rules : List Rule) {z : A} → outcome rules x ≡ answered z → outcome rules y ≡ answered y
  still_answered rules e = alone rules ∙ rw e

  pub refused_before : (front more : List Rule) {n : ℕ} → outcome front x ≡ refused n → outcome (front ++ more) y ≡ refused n
  refused_before front more e = behind front more ∙ rw e

  pub passed_before : (front more : List Rule) {z : A} → outcome front x ≡ answered z → outcome (front ++ more) y ≡ outcome more y
  passed_before front more e = behind front more ∙ rw e

-- a call that is answered has passed all its rules
pub answered_before : {A : Type 0} (front more : List Rule) (x : A) {z : A} → outcome (front ++ more) x ≡ answered z
    → (outcome front x ≡ answered x) × (outcome more x ≡ answered z)
unfolding outcome
answered_before [] more x e = (refl, e)
answered_before ((r given_if true) ∷ front) more x e = let z : ◌≡◌ {A = ℕ} 0 1 = cc in absurd (omega arith)
answered_before ((r given_if false) ∷ front) more x e = answered_before front more x e

-- and what it answers is the answer
pub answer_is : {A : Type 0} (rules : List Rule) (x : A) {z : A} → outcome rules x ≡ answered z → z ≡ x
unfolding outcome
answer_is [] x e = cc
answer_is ((r given_if true) ∷ rules) x e = let z : ◌≡◌ {A = ℕ} 0 1 = cc in absurd (omega arith)
answer_is ((r given_if false) ∷ rules) x e = answer_is rules x e

-- a call is refused exactly where a refusal of its list applies
pub refused_where : {A : Type 0} (rules : List Rule) (x : A)
    → ((applies rules ≡ true) × ((n : ℕ) × (outcome rules x ≡ refused n))) ⊎ ((applies rules ≡ false) × (outcome rules x ≡ answered x))
unfolding outcome applies
refused_where [] x = inr (refl, refl)
refused_where ((e given_if true) ∷ rules) x = inl (refl, (number_of e, refl))
refused_where ((e given_if false) ∷ rules) x = refused_where rules x

-- ---- the number that comes back

pub number_range : (e : Refusal) → (1 ≤ number_of e) × (number_of e ≤ 14)
number_range Modulus = omega arith
number_range Order = omega arith
number_range Exponent = omega arith
number_range Variant = omega arith
number_range Room = omega arith
number_range Length = omega arith
number_range Word = omega arith
number_range Mismatch = omega arith
number_range Register = omega arith
number_range Position = omega arith
number_range Base = omega arith
number_range Range = omega arith
number_range Index = omega arith
number_range Count = omega arith

pub refused_range : {A : Type 0} (rules : List Rule) (x : A) {n : ℕ} → outcome rules x ≡ refused n → (1 ≤ n) × (n ≤ 14)
unfolding outcome
refused_range [] x e = let z : ◌≡◌ {A = ℕ} 0 1 = cc in absurd (omega arith)
refused_range ((r given_if true) ∷ rules) x {n} e = let same : number_of r ≡ n = cc in rw same at (number_range r)
refused_range ((r given_if false) ∷ rules) x e = refused_range rules x e

-- a call is refused where its number isn't 0
pub by_number : {A : Type 0} (o : Outcome A) → ¬ (refusal_number o ≡ 0) → o ≡ refused (refusal_number o)
by_number (refused n) h = refl
by_number (answered x) h = absurd (h refl)

-- 0 says that a call is answered, and a place that another answer by the same rules goes to holds that answer; else what it held
module _ {A B : Type 0} (x : A) (y held : B) where
  pub zero_answered : (rules : List Rule) → refusal_number (outcome rules x) ≡ 0 → (outcome rules x ≡ answered x) × (after (outcome rules y) held ≡ y)
  unfolding outcome
  zero_answered [] e = (refl, refl)
  zero_answered ((r given_if true) ∷ rules) e = absurd (omega (arith, number_range r))
  zero_answered ((r given_if false) ∷ rules) e = zero_answered rules e

  pub other_refused : (rules : List Rule) → ¬ (refusal_number (outcome rules x) ≡ 0) → after (outcome rules y) held ≡ held
  unfolding outcome
  other_refused [] some = absurd (some refl)
  other_refused ((r given_if true) ∷ rules) some = refl
  other_refused ((r given_if false) ∷ rules) some = other_refused rules some

-- Steps that are one of the programs of a list: the test tells it; and the laws of members that the table needs.
use mathlib.Core.Path.{◌≡◌, refl, sym, ap, ap₂, ◌∙◌}
use mathlib.Core.Bool.{Bool, true, ◌&&◌, ◌||◌, or-true, false≢true}
use mathlib.Core.Logic.{inl, inr}
use mathlib.Core.List.{List, [], ◌∷◌, map}
use Prim.Native.Nat.{ℕ, ◌≤◌, ◌<◌}
use native.Mathlib.Omega.{arith}
use lib.Dec.{eqb}
use lib.ListN.{length, get_or}
use borrow.Author.Tests.{eqb-true, eq-eqb}
use Rattle.refusal.proofs.Laws.Tests.{by_test, both, and_both}
use Rattle.tape.specs.declared.Step.{Step}
use Rattle.tape.specs.declared.Step.TheVariants.{Mul, Div, Swp}
use Rattle.named.specs.Members.{Member, same_step, same_steps, is_one_of}

-- ---- the test

same_numbers : (f : ℕ → ℕ → Step) (t s u v : ℕ) → eqb t u && eqb s v ≡ true → f t s ≡ f u v
same_numbers f t s u v e =
    let h = both (eqb t u) (eqb s v) e in
    ap₂ f (eqb-true t u h.0) (eqb-true s v h.1)

same_step_lem : (x y : Step) → same_step x y ≡ true → x ≡ y
unfolding same_step
same_step_lem (Mul t s) (Mul u v) e = same_numbers Mul t s u v e
same_step_lem (Mul t s) (Div u v) e = absurd (false≢true e)
same_step_lem (Mul t s) (Swp u v) e = absurd (false≢true e)
same_step_lem (Div t s) (Mul u v) e = absurd (false≢true e)
same_step_lem (Div t s) (Div u v) e = same_numbers Div t s u v e
same_step_lem (Div t s) (Swp u v) e = absurd (false≢true e)
same_step_lem (Swp t s) (Mul u v) e = absurd (false≢true e)
same_step_lem (Swp t s) (Div u v) e = absurd (false≢true e)
same_step_lem (Swp t s) (Swp u v) e = same_numbers Swp t s u v e

step_same : (x : Step) → same_step x x ≡ true
unfolding same_step
step_same (Mul t s) = rw (eq-eqb t t refl, eq-eqb s s refl)
step_same (Div t s) = rw (eq-eqb t t refl, eq-eqb s s refl)
step_same (Swp t s) = rw (eq-eqb t t refl, eq-eqb s s refl)

same_steps_lem : (xs ys : List Step) → same_steps xs ys ≡ true → xs ≡ ys
unfolding same_steps
same_steps_lem [] [] e = refl
same_steps_lem [] (y ∷ ys) e = absurd (false≢true e)
same_steps_lem (x ∷ xs) [] e = absurd (false≢true e)
same_steps_lem (x ∷ xs) (y ∷ ys) e =
    let h = both (same_step x y) (same_steps xs ys) e in
    ap₂ ◌∷◌ (same_step_lem x y h.0) (same_steps_lem xs ys h.1)

steps_same : (xs : List Step) → same_steps xs xs ≡ true
unfolding same_steps
steps_same [] = refl
steps_same (x ∷ xs) = and_both (same_step x x) (same_steps xs xs) (step_same x) (steps_same xs)

pub one_of_member : (xs : List Step) (programs : List (List Step)) → is_one_of xs programs ≡ true → Member xs programs
unfolding is_one_of
one_of_member xs [] e = absurd (false≢true e)
one_of_member xs (ys ∷ programs) e =
    by_test (same_steps xs ys)
    (λ same. inl (same_steps_lem xs ys same))
    (λ other. inr (one_of_member xs programs (ap (λ (t : Bool). t || is_one_of xs programs) (sym other) ∙ e)))

pub member_one_of : (xs : List Step) (programs : List (List Step)) → Member xs programs → is_one_of xs programs ≡ true
unfolding is_one_of
member_one_of xs [] m = absurd m
member_one_of xs (ys ∷ programs) (inl e) = rw (← e, steps_same xs)
member_one_of xs (ys ∷ programs) (inr m) = ap (λ (t : Bool). same_steps xs ys || t) (member_one_of xs programs m) ∙ or-true (same_steps xs ys)

-- ---- members of any list

module _ {A : Type 0} where
  pub only_member : {x y : A} → Member x (y ∷ []) → x ≡ y
  only_member (inl e) = e
  only_member (inr m) = absurd m

  pub first_member : (xs : List A) (none : A) → 0 < length xs → Member (get_or xs 0 none) xs
  first_member [] none some = absurd (omega arith)
  first_member (x ∷ xs) none some = inl refl

  pub first_only : (xs : List A) (none x : A) → length xs ≤ 1 → Member x xs → x ≡ get_or xs 0 none
  first_only [] none x few m = absurd m
  first_only (y ∷ []) none x few m = only_member m
  first_only (y ∷ z ∷ xs) none x few m = absurd (omega arith)

-- what holds of the images of all members
pub member_map : {A B : Type 0} (P : B → Type 0) (f : A → B) (xs : List A) → ((x : A) → Member x xs → P (f x)) → (y : B) → Member y (map f xs) → P y
member_map P f [] every y m = absurd m
member_map P f (x ∷ xs) every y (inl e) = rw e (every x (inl refl))
member_map P f (x ∷ xs) every y (inr m) = member_map P f xs (λ z n. every z (inr n)) y m

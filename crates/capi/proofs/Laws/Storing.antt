-- An answer that was stored is known by what its service promises.
use Rattle.std.proofs.Common.{◌≡◌, refl, subst, List, ℕ, Result, Ok, Err}
use Rattle.refusal.specs.declared.Refusal.{Refusal}
use Rattle.refusal.specs.Outcomes.{Outcome, answered, outcome_of, outcome_by, refusal_number, after, and_then}

-- the number that comes back and what the place holds are those of the outcome that the answer stands for
pub stored : {A : Type 0} {o p : Outcome A} {n : ℕ} {now : A} (held : A) → o ≡ p → (n ≡ refusal_number o) × (now ≡ after o held) → (n ≡ refusal_number p) × (now ≡ after p held)
stored held e s = rw e at s

-- beside a row that the service wrote
pub stored_beside : {A : Type 0} {o p : Outcome A} {n : ℕ} {now : A} {row made : List ℕ} (held : A) → (o ≡ p) × (row ≡ made) → (n ≡ refusal_number o) × (now ≡ after o held)
    → (n ≡ refusal_number p) × ((row ≡ made) × (now ≡ after p held))
stored_beside held e s = let t = stored held e.0 s in (t.0, (e.1, t.1))

-- a number is seen as it is
pub as_it_is : {A : Type 0} (answer : Result A Refusal) → outcome_by (λ x. x) answer ≡ outcome_of answer
as_it_is (Ok x) = refl
as_it_is (Err r) = refl

-- where the place holds a row of what the definitions see
pub stored_row : {A B C : Type 0} {p : Outcome B} {n : ℕ} {now : C} (see : A → B) (row : B → C) (answer : Result A Refusal) (held : C) → outcome_by see answer ≡ p
    → (n ≡ refusal_number (outcome_by (λ x. row (see x)) answer)) × (now ≡ after (outcome_by (λ x. row (see x)) answer) held)
    → (n ≡ refusal_number p) × (now ≡ after (and_then p (λ x. answered (row x))) held)
stored_row {B = B} {n = n} {now = now} see row (Ok x) held e s =
    let P : Outcome B → Type 0 = λ o. (n ≡ refusal_number o) × (now ≡ after (and_then o (λ y. answered (row y))) held) in
    subst P e s
stored_row {B = B} {n = n} {now = now} see row (Err r) held e s =
    let P : Outcome B → Type 0 = λ o. (n ≡ refusal_number o) × (now ≡ after (and_then o (λ y. answered (row y))) held) in
    subst P e s

-- What is printed of an answer that the definitions see in another way: by cases, since a refusal shows nothing of it.
use Rattle.std.specs.Prelude.{◌≡◌, refl, List, ℕ, Result, Ok, Err}
use Rattle.refusal.specs.declared.Refusal.{Refusal}
use Rattle.refusal.specs.Outcomes.{outcome_of, outcome_by}
use Rattle.tool.specs.Replies.{printed}

pub printed_by : {A B : Type 0} (own : ℕ) (see : A → B) (line : B → List ℕ) (answer : Result A Refusal)
    → printed own (outcome_of answer) (λ x. line (see x)) ≡ printed own (outcome_by see answer) line
printed_by own see line (Ok x) = refl
printed_by own see line (Err e) = refl

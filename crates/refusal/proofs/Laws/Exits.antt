-- What a `?` hands on: where a call is refused, so is the function that made it, with the same refusal, whatever it would have answered.
use Rattle.std.specs.Prelude.{◌≡◌, refl, Result, Ok, Err, IsErrAnd}
use Rattle.std.proofs.Common.{ap}
use Rattle.refusal.specs.declared.Refusal.{Refusal}
use Rattle.refusal.specs.Refusals.{number_of}
use Rattle.refusal.specs.Outcomes.{refused, outcome_of, outcome_by, verdict_of, refusal_number}

module _ (e : Refusal) where
  pub exit_of : {A : Type 0} (r : Result A Refusal) → IsErrAnd r (λ x. x ≡ e) → outcome_of r ≡ refused (number_of e)
  exit_of (Ok x) h = absurd h
  exit_of (Err x) h = ap (λ (y : Refusal). refused (number_of y)) h

  pub exit_by : {A B : Type 0} (see : A → B) (r : Result A Refusal) → IsErrAnd r (λ x. x ≡ e) → outcome_by see r ≡ refused (number_of e)
  exit_by see (Ok x) h = absurd h
  exit_by see (Err x) h = ap (λ (y : Refusal). refused (number_of y)) h

  pub exit_verdict : (r : Result (Unit {0}) Refusal) → IsErrAnd r (λ x. x ≡ e) → verdict_of r ≡ refused (number_of e)
  exit_verdict (Ok x) h = absurd h
  exit_verdict (Err x) h = ap (λ (y : Refusal). refused (number_of y)) h

-- the number of a test doesn't depend on what it is seen to answer
pub verdict_number : (r : Result (Unit {0}) Refusal) → refusal_number (outcome_of r) ≡ refusal_number (verdict_of r)
verdict_number (Ok x) = refl
verdict_number (Err e) = refl

-- What a call comes to: a refusal's number, or the values it answers. "One number comes back: the first that applies;
-- where none applies, the call isn't refused."
use Rattle.std.specs.Prelude.{◌≡◌, refl, Bool, true, false, ◌||◌, List, [], ◌∷◌, ◌++◌, ℕ, length, drop, Result, Ok, Err}
use Rattle.refusal.specs.declared.Refusal.{Refusal}
use Rattle.refusal.specs.Refusals.{number_of}

infix 10 ◌given_if◌
pub data Outcome (A : Type 0) : Type 0 where
  refused : ℕ → Outcome A
  answered : A → Outcome A

-- a line of a service's list of refusals: which one, and the test that gives it
pub data Rule : Type 0 where
  ◌given_if◌ : Refusal → Bool → Rule

-- the first refusal whose test holds; where none does, the answer
unfoldable pub outcome : {A : Type 0} → List Rule → A → Outcome A
outcome [] x = answered x
outcome ((e given_if true) ∷ rules) x = refused (number_of e)
outcome ((e given_if false) ∷ rules) x = outcome rules x

-- some test of the list holds
unfoldable pub applies : List Rule → Bool
applies [] = false
applies ((e given_if t) ∷ rules) = t || applies rules

-- the outcome that a `Result` of the code stands for
abbrev pub outcome_of : {A : Type 0} → Result A Refusal → Outcome A
outcome_of (Ok x) = answered x
outcome_of (Err e) = refused (number_of e)

-- the same, where the definitions see the value in another way
abbrev pub outcome_by : {A B : Type 0} → (A → B) → Result A Refusal → Outcome B
outcome_by see (Ok x) = answered (see x)
outcome_by see (Err e) = refused (number_of e)

-- the same of a test, which answers nothing; the definitions have 0 for that
abbrev pub verdict_of : Result (Unit {0}) Refusal → Outcome ℕ
verdict_of (Ok passed) = answered 0
verdict_of (Err e) = refused (number_of e)

-- the number that comes back: 0 where the call isn't refused
abbrev pub refusal_number : {A : Type 0} → Outcome A → ℕ
refusal_number (refused n) = n
refusal_number (answered x) = 0

-- what comes next where the first is not refused
abbrev pub and_then : {A B : Type 0} → Outcome A → (A → Outcome B) → Outcome B
and_then (refused n) next = refused n
and_then (answered x) next = next x

-- what a call leaves in a place that its answer goes to: refused, what was held there; answered, the answer
abbrev pub after : {A : Type 0} → Outcome A → A → A
after (refused n) held = held
after (answered x) held = x

-- a lent buffer at exit: refused, what it held; answered, what was written, with what stood past it
abbrev pub buffer_after : {A : Type 0} → Outcome A → List ℕ → List ℕ → List ℕ
buffer_after (refused n) wrote row = row
buffer_after (answered x) wrote row = wrote ++ drop (length wrote) row

-- the laws of the list: its first test holds, or does not
pub gives : {A : Type 0} {t : Bool} (e : Refusal) (rules : List Rule) (x : A) → t ≡ true → outcome ((e given_if t) ∷ rules) x ≡ refused (number_of e)
unfolding outcome
gives e rules x h = rw h refl

pub passes : {A : Type 0} {t : Bool} (e : Refusal) (rules : List Rule) (x : A) → t ≡ false → outcome ((e given_if t) ∷ rules) x ≡ outcome rules x
unfolding outcome
passes e rules x h = rw h refl

pub answers : {A : Type 0} (x : A) → outcome [] x ≡ answered x
unfolding outcome
answers x = refl

-- the row at exit, by the call's outcome
pub row_kept : {A : Type 0} {o : Outcome A} {n : ℕ} (wrote row : List ℕ) → o ≡ refused n → buffer_after o wrote row ≡ row
row_kept wrote row e = rw e refl

pub row_written : {A : Type 0} {o : Outcome A} {x : A} (wrote row : List ℕ) → o ≡ answered x → buffer_after o wrote row ≡ wrote ++ drop (length wrote) row
row_written wrote row e = rw e refl

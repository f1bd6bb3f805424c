-- `power` meets its contract: what is shown is the record that forward answers, and its refusal stays what it is.
use Rattle.std.specs.Prelude.{◌≡◌, refl, ℕ, List, Result, Ok, Err, IsOkAnd, MatchResult}
use Rattle.std.proofs.Common.{rules}
use Rattle.refusal.specs.declared.Refusal.{Refusal}
use Rattle.refusal.specs.Outcomes.{outcome_of, outcome_by}
use Rattle.sequencer.specs.Records.{record_of}
use Rattle.tool.specs.Texts.{power_lines}
use Rattle.tool.specs.Replies.{printed}
use Rattle.tape_verbs.proofs.power.Goals as goal

-- an answer of which `map` makes what is shown is printed as the answer itself
mapped : {A B C : Type 0} (own : ℕ) (f : A → B) (g : C → B) (line : B → List ℕ) (r : Result A Refusal) (m : Result C Refusal) (P : A → C → Type 0)
    → ((x : A) (y : C) → P x y → g y ≡ f x) → MatchResult r (λ x. IsOkAnd m (P x)) (λ e. m ≡ Err e)
    → printed own (outcome_of m) (λ y. line (g y)) ≡ printed own (outcome_by f r) line
mapped own f g line (Ok x) (Ok y) P same h = rw (same x y h) refl
mapped own f g line (Ok x) (Err e) P same h = elim h [ ]
mapped own f g line (Err e) m P same h = rw h refl

pub returns : goal.returns
returns c =
    let told = mapped c.args.own record_of (λ p. record_of p.state) power_lines c.forward-answer.result c.map.result _ (λ x y h. search rules) c.map.ensures.cases in
    rw (told, c.forward-answer.ensures) at c.print.ensures

-- `fibonacci` meets its contract: an index has a number exactly where it isn't refused.
use Rattle.std.proofs.Common.{◌≡◌, ℕ, [], sym, ap, ◌∙◌, arith, le-leb, le-ltb, lt-ltb}
use borrow.Author.Tests.{lt-leb}
use native.Mathlib.Decide.{dec_le}
use Rattle.std.specs.Option.{ok_or}
use Rattle.refusal.specs.declared.Refusal.TheVariants.{Index}
use Rattle.refusal.specs.Outcomes.{outcome_of, gives, passes, answers}
use Rattle.fibonacci.specs.Services.{fibonacci_of, fibonacci_outcome}
use Rattle.golden.proofs.fibonacci.Goals as goal

answer : (i : ℕ) → outcome_of (ok_or (fibonacci_of i) Index) ≡ fibonacci_outcome i
unfolding fibonacci_of fibonacci_outcome
answer i =
    elim (dec_le i 93) [
      | yes fits ↦ rw (le-leb i 93 fits) (sym (passes Index [] _ (le-ltb 93 i fits) ∙ answers _))
      | no past ↦ rw (lt-leb i 93 (omega arith)) (sym (gives Index [] _ (lt-ltb 93 i (omega arith))))
    ]

pub returns : goal.returns
returns c = ap outcome_of (c.ok_or.ensures.value ∙ ap (λ o. ok_or o Index) c.fibonacci_of.ensures) ∙ answer c.args.index

-- The arm of a step that makes a number: where the number is in the range it is set, and else nothing is, as the definition has it.
use Rattle.std.specs.Prelude.{◌≡◌, Bool, true, false, ℕ, List, ℤ, set, Option, Some, None, is_some, SomeIff, MatchOption}
use mathlib.Core.Path.{refl, ap, ◌∙◌}
use Rattle.tape.specs.declared.Step.{Step}
use Rattle.machine.specs.Exponents.{in_range, makes_in_range, shift_in_range}
use Rattle.machine.proofs.Laws.Sums.{Makes, step_stops, step_done}

-- what a step answers and what it makes of the exponents
pub record Done (step : Step) (before after : List ℤ) (inside : Bool) : Type 0 where
  pub value : inside ≡ makes_in_range step before
  pub exponents_after : after ≡ shift_in_range step before

untrue : (b : Bool) → (b ≡ true → ⊥) → b ≡ false
untrue true never = absurd (never refl)
untrue false never = refl

module _ (step : Step) (before after : List ℤ) (t : ℕ) (e : ℤ) (inside : Bool) (makes : Makes step before t e) where
  pub arm : (made : Option ℤ) → SomeIff made (in_range e ≡ true) e → inside ≡ is_some made
      → MatchOption made (after ≡ before) (λ x. after ≡ set before t x) → Done step before after inside
  arm None outside none same =
      let both = step_stops step before t e makes (untrue (in_range e) outside) in
      record { value = none ∙ both.0; exponents_after = same ∙ both.1 }
  arm (Some x) made some there =
      let both = step_done step before t e makes after made.0 (there ∙ ap (set before t) made.1) in
      record { value = some ∙ both.0; exponents_after = both.1 }

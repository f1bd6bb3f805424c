-- REQUIREMENTS 7.1, refusal 8: steps are one of the programs that a list has, with the test that tells it (`one_of_member` and
-- `member_one_of` of proofs/Laws/Members).
use Rattle.std.specs.Prelude.{◌≡◌, Bool, true, false, ◌&&◌, ◌||◌, ◌⊎◌, List, [], ◌∷◌, eqb}
use Rattle.tape.specs.declared.Step.{Step}
use Rattle.tape.specs.declared.Step.TheVariants.{Mul, Div, Swp}

abbrev pub Member : {A : Type 0} → A → List A → Type 0
Member x [] = ⊥
Member x (y ∷ ys) = (x ≡ y) ⊎ Member x ys

unfoldable pub same_step : Step → Step → Bool
same_step (Mul t s) (Mul u v) = eqb t u && eqb s v
same_step (Mul t s) (Div u v) = false
same_step (Mul t s) (Swp u v) = false
same_step (Div t s) (Mul u v) = false
same_step (Div t s) (Div u v) = eqb t u && eqb s v
same_step (Div t s) (Swp u v) = false
same_step (Swp t s) (Mul u v) = false
same_step (Swp t s) (Div u v) = false
same_step (Swp t s) (Swp u v) = eqb t u && eqb s v

unfoldable pub same_steps : List Step → List Step → Bool
same_steps [] [] = true
same_steps [] (y ∷ ys) = false
same_steps (x ∷ xs) [] = false
same_steps (x ∷ xs) (y ∷ ys) = same_step x y && same_steps xs ys

unfoldable pub is_one_of : List Step → List (List Step) → Bool
is_one_of xs [] = false
is_one_of xs (ys ∷ programs) = same_steps xs ys || is_one_of xs programs

-- The way from one position to another: the steps that are really done on it, and how many of them are of a kind.
use Rattle.std.specs.Prelude.{Bool, true, false, cond, List, [], ◌∷◌, ℕ, suc, leb}
use Rattle.std.proofs.Math.Seq.{slice}
use Rattle.tape.specs.declared.Step.{Step}
use Rattle.tape.specs.declared.Step.TheVariants.{Mul, Div, Swp}
use Rattle.machine.specs.declared.Counts.{Counts}
use Rattle.machine.specs.Machine.{inverted}

-- from position i to position j: the steps numbered i + 1 to j, or those numbered j + 1 to i taken back
unfoldable pub way : List Step → ℕ → ℕ → List Step
way xs i j = cond (leb i j) (slice i j xs) (inverted (slice j i xs))

-- how many steps pass a test
unfoldable pub count_where : (Step → Bool) → List Step → ℕ
count_where test [] = 0
count_where test (x ∷ xs) = cond (test x) (suc (count_where test xs)) (count_where test xs)

unfoldable pub is_mul : Step → Bool
is_mul (Mul t s) = true
is_mul (Div t s) = false
is_mul (Swp t s) = false

unfoldable pub is_div : Step → Bool
is_div (Mul t s) = false
is_div (Div t s) = true
is_div (Swp t s) = false

unfoldable pub is_swp : Step → Bool
is_swp (Mul t s) = false
is_swp (Div t s) = false
is_swp (Swp t s) = true

-- how many are mul, div and swp, in this order
unfoldable pub counts_of : List Step → List ℕ
counts_of xs = count_where is_mul xs ∷ count_where is_div xs ∷ count_where is_swp xs ∷ []

-- the three numbers of the code's `Counts`, in the same order
abbrev pub count_numbers : Counts → List ℕ
count_numbers counts = counts.mul ∷ counts.div ∷ counts.swp ∷ []

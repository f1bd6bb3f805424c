-- Laws of tests: a test is true or false, and what a conjunction or a disjunction of two says of each.
use mathlib.Core.Path.{◌≡◌, refl, sym}
use mathlib.Core.Bool.{Bool, true, false, not, ◌&&◌, ◌||◌, true≢false, false≢true}

-- a test, from what is absurd
pub test_false : (t : Bool) → ¬ (t ≡ true) → t ≡ false
test_false true h = absurd (h refl)
test_false false h = refl

pub test_true : (t : Bool) → ¬ (t ≡ false) → t ≡ true
test_true true h = refl
test_true false h = absurd (h refl)

-- both ways that a test can come out
pub by_test : {A : Type 0} (t : Bool) → (t ≡ true → A) → (t ≡ false → A) → A
by_test true f g = f refl
by_test false f g = g refl

-- both of two tests, from their conjunction, and back
pub both : (s t : Bool) → s && t ≡ true → (s ≡ true) × (t ≡ true)
both true t e = (refl, e)
both false t e = absurd (false≢true e)

pub and_both : (s t : Bool) → s ≡ true → t ≡ true → s && t ≡ true
and_both true t d e = e
and_both false t d e = d

-- neither of two tests, from their disjunction
pub neither : (s t : Bool) → s || t ≡ false → (s ≡ false) × (t ≡ false)
neither true t e = absurd (true≢false e)
neither false t e = (refl, e)

-- the second of two tests where the first holds, and back
pub implied : (s t : Bool) → not s || t ≡ true → s ≡ true → t ≡ true
implied true t e h = e
implied false t e h = absurd (false≢true h)

pub implies : (s t : Bool) → (s ≡ true → t ≡ true) → not s || t ≡ true
implies true t f = f refl
implies false t f = refl

-- two tests that each say the other
pub agree : (s t : Bool) → (s ≡ true → t ≡ true) → (t ≡ true → s ≡ true) → s ≡ t
agree true t f g = sym (f refl)
agree false true f g = g refl
agree false false f g = refl

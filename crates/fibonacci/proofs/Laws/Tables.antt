-- What a table of Fibonacci numbers must be, as a test that computes: each number is the sum of the two before it. So a table of 94 that begins with
-- F_0 has each of those that fit 64 bits.
use Rattle.std.proofs.Common.{◌≡◌, Bool, true, ◌&&◌, List, [], ◌∷◌, ℕ, zero, suc, ◌+◌, ◌<◌, eqb, length, get_or, sym, ap, ◌∙◌, arith, Some}
use Rattle.std.specs.List.{slice_get}
use Rattle.std.specs.Option.{unwrap_or}
use Rattle.std.proofs.lemmas.Option.{slice_get_past, slice_get-get_or}
use native.Mathlib.Decide.{dec_le}
use borrow.Author.Tests.{eqb-true, le-leb, lt-leb}
use Rattle.refusal.proofs.Laws.Tests.{both}
use Rattle.fibonacci.specs.Fibonacci.{fib}
use Rattle.fibonacci.specs.Services.{fibonacci_of, fibonacci_or_zero}
use Rattle.fibonacci.proofs.Laws.Fibonacci.{fib_next, fib_zero, fib_one}

-- the first is a given number, the second too, and so on
unfoldable pub are_fibonacci : ℕ → ℕ → List ℕ → Bool
are_fibonacci a b [] = true
are_fibonacci a b (f ∷ fs) = eqb f a && are_fibonacci b (a + b) fs

fibonacci_from : (i a b : ℕ) (fs : List ℕ) → a ≡ fib i → b ≡ fib (suc i) → are_fibonacci a b fs ≡ true → (k : ℕ) → k < length fs → get_or fs k 0 ≡ fib (k + i)
unfolding are_fibonacci
fibonacci_from i a b [] at next t k inside = absurd (omega arith)
fibonacci_from i a b (f ∷ fs) at next t zero inside = eqb-true f a (both (eqb f a) _ t).0 ∙ at ∙ ap fib (omega arith)
fibonacci_from i a b (f ∷ fs) at next t (suc k) inside =
    fibonacci_from (suc i) b (a + b) fs next (omega (arith, fib_next i)) (both (eqb f a) _ t).1 k (omega arith) ∙ ap fib (omega arith)

pub fibonacci_listed : (fs : List ℕ) → are_fibonacci 0 1 fs ≡ true → length fs ≡ 94 → (i : ℕ) → slice_get fs i ≡ fibonacci_of i
unfolding fibonacci_of
fibonacci_listed fs t all i =
    elim (dec_le i 93) [
      | yes fits ↦
          rw (le-leb i 93 fits, slice_get-get_or fs i 0 (omega arith))
          (ap Some (fibonacci_from 0 0 1 fs (sym fib_zero) (sym fib_one) t i (omega arith) ∙ ap fib (omega arith)))
      | no past ↦ rw (lt-leb i 93 (omega arith)) (slice_get_past fs i (omega arith))
    ]

-- and where it does not fit, 0 stands for it
pub fibonacci_of_or_zero : (i : ℕ) → unwrap_or (fibonacci_of i) 0 ≡ fibonacci_or_zero i
unfolding fibonacci_of fibonacci_or_zero
fibonacci_of_or_zero i = elim (dec_le i 93) [ yes fits ↦ rw (le-leb i 93 fits) | no past ↦ rw (lt-leb i 93 (omega arith)) ]

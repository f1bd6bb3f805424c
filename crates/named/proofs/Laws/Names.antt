-- No name of a list is longer than the longest.
use mathlib.Core.Bool.{cond}
use mathlib.Core.List.{List, [], ◌∷◌}
use Prim.Native.Nat.{ℕ, zero, suc, ◌≤◌}
use native.Mathlib.Omega.{arith}
use borrow.Author.Tests.{leb-true, leb-false}
use lib.Dec.{leb}
use lib.ListN.{length, get_or}
use Rattle.refusal.proofs.Laws.Tests.{by_test}
use Rattle.named.specs.Named.{longest}

-- the larger of two numbers is at least both
larger : (a b : ℕ) → (a ≤ cond (leb a b) b a) × (b ≤ cond (leb a b) b a)
larger a b =
    by_test (leb a b)
    (λ yes. let h = leb-true a b yes in rw yes (h, omega arith))
    (λ no. let h = leb-false a b no in rw no (omega arith, omega arith))

pub longest_most : (names : List (List ℕ)) (i : ℕ) → length (get_or names i []) ≤ longest names
longest_most [] i = omega arith
longest_most (name ∷ names) zero = (larger (length name) (longest names)).0
longest_most (name ∷ names) (suc i) = omega (arith, longest_most names i, (larger (length name) (longest names)).1)

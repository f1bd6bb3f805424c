-- Fibonacci forms: the paper's bit strings with their sum, Zeckendorf forms, and the list of places.
use Rattle.std.specs.Prelude.{Bool, true, false, ◌&&◌, cond, List, [], ◌∷◌, ◌++◌, ℕ, zero, suc, ◌+◌, ◌-◌, ◌≤◌, T, leb}
use Rattle.fibonacci.specs.Fibonacci.{fib}

-- A Fibonacci form is a list of bits, place 1 first. The sum of a form whose first bit is place i: place i weighs F_(i+1).
unfoldable pub fibsum_from : ℕ → List Bool → ℕ
fibsum_from i [] = 0
fibsum_from i (b ∷ bs) = cond b (fib (suc i)) 0 + fibsum_from (suc i) bs

-- the paper's FIBSUM
abbrev pub fibsum : List Bool → ℕ
fibsum bs = fibsum_from 1 bs

-- the first bit is not set
abbrev pub Clear : List Bool → Type 0
Clear [] = Unit {0}
Clear (false ∷ bs) = Unit {0}
Clear (true ∷ bs) = ⊥

-- no two neighbours are set
abbrev pub Sparse : List Bool → Type 0
Sparse [] = Unit {0}
Sparse (false ∷ bs) = Sparse bs
Sparse (true ∷ bs) = Clear bs × Sparse bs

-- the highest place is set; the empty form has none
abbrev pub Topped : List Bool → Type 0
Topped [] = Unit {0}
Topped (b ∷ []) = T b
Topped (b ∷ c ∷ bs) = Topped (c ∷ bs)

-- its highest place set and no two neighbours set; 0 has the empty form
pub record Zeckendorf (bs : List Bool) : Type 0 where
  pub sparse : Sparse bs
  pub topped : Topped bs

-- a form of at most m places, padded with places that are not set to m
unfoldable pub pad : ℕ → List Bool → List Bool
pad zero bs = bs
pad (suc m) [] = false ∷ pad m []
pad (suc m) (b ∷ bs) = b ∷ pad m bs

-- Place m + 1 set above a form of at most m places.
abbrev pub top_at : ℕ → List Bool → List Bool
top_at m bs = pad m bs ++ true ∷ []

-- The greedy form of n: from place m down, each place set whose weight is left.
unfoldable pub greedy : ℕ → ℕ → List Bool
greedy zero n = []
greedy (suc m) n =
    elim (leb (fib (suc (suc m))) n) [ true ↦ top_at m (greedy m (n - fib (suc (suc m)))) | false ↦ greedy m n ]

-- The Zeckendorf form of n; place n is high enough (`zeckendorf_by` of proofs/Laws/Zeckendorf: any place that is gives the same form).
unfoldable pub zeckendorf : ℕ → List Bool
zeckendorf n = greedy n n

-- the places that are set, highest first, of a form whose first bit is place i
unfoldable pub places_from : ℕ → List Bool → List ℕ
places_from i [] = []
places_from i (b ∷ bs) = places_from (suc i) bs ++ cond b (i ∷ []) []

abbrev pub places : List Bool → List ℕ
places bs = places_from 1 bs

-- how many places are set
unfoldable pub ones : List Bool → ℕ
ones [] = 0
ones (b ∷ bs) = cond b 1 0 + ones bs

-- the number that a list of places stands for
unfoldable pub weight : List ℕ → ℕ
weight [] = 0
weight (i ∷ l) = fib (suc i) + weight l

-- A list is the places of a Zeckendorf form: from 1 to m, each below the place before it and not its neighbour.
abbrev pub Places : ℕ → List ℕ → Type 0
Places m [] = Unit {0}
Places m (i ∷ l) = (1 ≤ i) × (i ≤ m) × Places (i - 2) l

-- the same as a test (`test_places` and `places_test` of proofs/Laws/Places)
unfoldable pub are_places : ℕ → List ℕ → Bool
are_places m [] = true
are_places m (i ∷ l) = leb 1 i && (leb i m && are_places (i - 2) l)

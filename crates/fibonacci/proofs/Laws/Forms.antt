-- Laws of bit strings: padding and a place set on top change sum and places as they should; the sum of a form with each
-- place moved down by one is G of its sum, since each place more is a step of Lemma 2.
use mathlib.Core.Path.{◌≡◌, refl, sym, ap, ◌∙◌}
use mathlib.Core.Bool.{Bool, true, false, cond}
use mathlib.Core.List.{List, [], ◌∷◌, ◌++◌, append-nil}
use Prim.Native.Nat.{ℕ, zero, suc, ◌+◌, ◌*◌, ◌-◌, ◌≤◌, ◌<◌}
use native.Mathlib.Nat.{add-zero, zero-add, add-suc, suc-add}
use native.Mathlib.Omega.{arith}
use lib.ListN.{length, length-append}
use Rattle.fibonacci.specs.Fibonacci.{fib}
use Rattle.fibonacci.specs.Forms.{fibsum_from, fibsum, Clear, Sparse, Topped, Zeckendorf, pad, top_at, places_from, places, ones, weight}
use Rattle.fibonacci.specs.Hofstadter.{G}
use Rattle.fibonacci.proofs.Laws.Fibonacci.{fib_zero, fib_one, fib_next}
use Rattle.fibonacci.proofs.Laws.Hofstadter.{Pair, pair_at_lem, pair_zero, pair_up, pair_up_one, pair_g}

pub pad_length : (m : ℕ) (bs : List Bool) → length bs ≤ m → length (pad m bs) ≡ m
unfolding pad
pad_length zero [] h = refl
pad_length zero (b ∷ bs) h = absurd (omega arith)
pad_length (suc m) [] h = ap suc (pad_length m [] (omega arith))
pad_length (suc m) (b ∷ bs) h = ap suc (pad_length m bs (omega arith))

pub pad_sum : (m i : ℕ) (bs : List Bool) → fibsum_from i (pad m bs) ≡ fibsum_from i bs
unfolding pad fibsum_from
pad_sum zero i bs = refl
pad_sum (suc m) i [] = omega (arith, pad_sum m (suc i) [])
pad_sum (suc m) i (b ∷ bs) = ap (λ (n : ℕ). cond b (fib (suc i)) 0 + n) (pad_sum m (suc i) bs)

pub ones_pad : (m : ℕ) (bs : List Bool) → ones (pad m bs) ≡ ones bs
unfolding pad ones
ones_pad zero bs = refl
ones_pad (suc m) [] = omega (arith, ones_pad m [])
ones_pad (suc m) (b ∷ bs) = ap (λ (n : ℕ). cond b 1 0 + n) (ones_pad m bs)

pub top_length : (m : ℕ) (bs : List Bool) → length bs ≤ m → length (top_at m bs) ≡ suc m
top_length m bs h = length-append (pad m bs) (true ∷ []) ∙ omega (arith, pad_length m bs h)

pub top_sum : (m i : ℕ) (bs : List Bool) → length bs ≤ m → fibsum_from i (top_at m bs) ≡ fib (suc (i + m)) + fibsum_from i bs
unfolding pad fibsum_from
top_sum zero i [] h = rw (add-zero i)
top_sum zero i (b ∷ bs) h = absurd (omega arith)
top_sum (suc m) i [] h = rw (add-suc, ← suc-add) (omega (arith, top_sum m (suc i) [] (omega arith)))
top_sum (suc m) i (b ∷ bs) h = rw (add-suc, ← suc-add) (omega (arith, top_sum m (suc i) bs (omega arith)))

pub top_places : (m i : ℕ) (bs : List Bool) → length bs ≤ m → places_from i (top_at m bs) ≡ (i + m) ∷ places_from i bs
unfolding pad places_from
top_places zero i [] h = rw (add-zero i)
top_places zero i (b ∷ bs) h = absurd (omega arith)
top_places (suc m) i [] h = rw (add-suc, ← suc-add, append-nil) (top_places m (suc i) [] (omega arith))
top_places (suc m) i (b ∷ bs) h =
    rw (add-suc, ← suc-add) (ap (λ (l : List ℕ). l ++ cond b (i ∷ []) []) (top_places m (suc i) bs (omega arith)))

clear_top : (m : ℕ) (bs : List Bool) → Clear bs → length bs < m → Clear (top_at m bs)
unfolding pad
clear_top zero bs c h = absurd (omega arith)
clear_top (suc m) [] c h = tt
clear_top (suc m) (false ∷ bs) c h = tt
clear_top (suc m) (true ∷ bs) c h = c

sparse_top : (m : ℕ) (bs : List Bool) → Sparse bs → length bs ≤ m - 1 → Sparse (top_at m bs)
unfolding pad
sparse_top zero [] s h = (tt, tt)
sparse_top zero (b ∷ bs) s h = absurd (omega arith)
sparse_top (suc m) [] s h = sparse_top m [] tt (omega arith)
sparse_top (suc m) (false ∷ bs) s h = sparse_top m bs s (omega arith)
sparse_top (suc m) (true ∷ bs) s h = (clear_top m bs s.0 (omega arith), sparse_top m bs s.1 (omega arith))

topped_append : (bs : List Bool) → Topped (bs ++ true ∷ [])
topped_append [] = tt
topped_append (b ∷ []) = tt
topped_append (b ∷ c ∷ bs) = topped_append (c ∷ bs)

-- place m + 1 on top of a Zeckendorf form without place m
pub top_zeckendorf : (m : ℕ) (bs : List Bool) → Zeckendorf bs → length bs ≤ m - 1 → Zeckendorf (top_at m bs)
top_zeckendorf m bs z h = record { sparse = sparse_top m bs z.sparse h; topped = topped_append (pad m bs) }

-- ---- a form and the form moved down by one place

pub sum_next : (i : ℕ) (bs : List Bool) → fibsum_from (suc (suc i)) bs ≡ fibsum_from (suc i) bs + fibsum_from i bs
unfolding fibsum_from
sum_next i [] = refl
sum_next i (true ∷ bs) = omega (arith, sum_next (suc i) bs, fib_next (suc i))
sum_next i (false ∷ bs) = omega (arith, sum_next (suc i) bs)

pub pair_form : (bs : List Bool) → Pair (fibsum_from 0 bs) (fibsum bs)
unfolding fibsum_from
pair_form [] = pair_zero
pair_form (true ∷ bs) =
    pair_at_lem (pair_up_one (pair_form bs)) (omega (arith, fib_one)) (omega (arith, sum_next 0 bs, fib_one, fib_zero, fib_next 0))
pair_form (false ∷ bs) = pair_at_lem (pair_up (pair_form bs)) (omega arith) (omega (arith, sum_next 0 bs))

pub G-form : (bs : List Bool) → G (fibsum bs) ≡ fibsum_from 0 bs
G-form bs = pair_g (pair_form bs)

-- Lemma 3, of any form: each place moved down by one, where place 1 drops out, plus 1 if place 1 was set
pub G-shift : (b : Bool) (bs : List Bool) → G (fibsum (b ∷ bs)) ≡ fibsum bs + cond b 1 0
unfolding fibsum_from
G-shift true bs = G-form (true ∷ bs) ∙ omega (arith, fib_one)
G-shift false bs = G-form (false ∷ bs) ∙ omega arith

-- ---- a form and its list of places

weight_append : (l m : List ℕ) → weight (l ++ m) ≡ weight l + weight m
unfolding weight
weight_append [] m = sym (zero-add (weight m))
weight_append (i ∷ l) m = omega (arith, weight_append l m)

weight_one : (b : Bool) (i : ℕ) → weight (cond b (i ∷ []) []) ≡ cond b (fib (suc i)) 0
unfolding weight
weight_one true i = omega arith
weight_one false i = refl

weight_places_from : (i : ℕ) (bs : List Bool) → weight (places_from i bs) ≡ fibsum_from i bs
unfolding places_from fibsum_from weight
weight_places_from i [] = refl
weight_places_from i (b ∷ bs) =
    omega (arith, weight_append (places_from (suc i) bs) (cond b (i ∷ []) []), weight_places_from (suc i) bs, weight_one b i)

pub weight_places : (bs : List Bool) → weight (places bs) ≡ fibsum bs
weight_places bs = weight_places_from 1 bs

pub ones_places : (i : ℕ) (bs : List Bool) → length (places_from i bs) ≡ ones bs
unfolding places_from ones
ones_places i [] = refl
ones_places i (true ∷ bs) = rw length-append (omega (arith, ones_places (suc i) bs))
ones_places i (false ∷ bs) = rw append-nil (omega (arith, ones_places (suc i) bs))

-- at most every other place is set
pub sparse_count : (i : ℕ) (bs : List Bool) → Sparse bs → 2 * length (places_from i bs) ≤ length bs + 1
unfolding places_from
sparse_count i [] s = omega arith
sparse_count i (false ∷ bs) s = rw append-nil (omega (arith, sparse_count (suc i) bs s))
sparse_count i (true ∷ []) s = omega arith
sparse_count i (true ∷ false ∷ bs) s =
    rw (append-nil, length-append) (omega (arith, sparse_count (suc (suc i)) bs s.1))
sparse_count i (true ∷ true ∷ bs) s = absurd s.0

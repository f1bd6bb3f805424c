-- Lists of places: the test and the predicate agree; the places of the form of a number are such a list, and every such list
-- is the places of the form of its weight.
use mathlib.Core.Path.{◌≡◌, refl, sym, ap, ◌∙◌}
use mathlib.Core.Bool.{Bool, true, false, ◌&&◌, and-false}
use mathlib.Core.List.{List, [], ◌∷◌}
use Prim.Native.Nat.{ℕ, zero, suc, ◌+◌, ◌-◌, ◌≤◌, ◌<◌, ◌^◌}
use native.Mathlib.Numerals.{one-add, add-one}
use native.Mathlib.Omega.{arith}
use native.Mathlib.Decide.{dec_lt}
use lib.Dec.{leb}
use lib.ListN.{length, get_or, drop, drop_of_length-le}
use lib.Seq.{drop-cons}
use borrow.Author.Tests.{leb-true, le-leb, lt-leb}
use Rattle.refusal.specs.Outcomes.{answered}
use Rattle.refusal.proofs.Laws.Tests.{both}
use Rattle.refusal.proofs.Laws.Rules.{answer_is}
use Rattle.fibonacci.specs.Fibonacci.{fib}
use Rattle.fibonacci.specs.Forms.{Zeckendorf, top_at, greedy, zeckendorf, places_from, places, weight, Places, are_places}
use Rattle.fibonacci.specs.Services.{places_of, places_outcome}
use Rattle.fibonacci.proofs.Laws.Fibonacci.{fib_next, fib_grows, fib_positive, fib_monotone, fib_exceeds, fib_64}
use Rattle.fibonacci.proofs.Laws.Forms.{top_length, top_places, top_zeckendorf, weight_places}
use Rattle.fibonacci.proofs.Laws.Zeckendorf.{greedy_zero, greedy_take, greedy_skip, greedy_length, greedy_sum, zeckendorf_sum, zeckendorf_only, zeckendorf_by, zeckendorf_count_64}

-- ---- the test

pub test_places : (m : ℕ) (l : List ℕ) → are_places m l ≡ true → Places m l
unfolding are_places
test_places m [] e = tt
test_places m (i ∷ l) e =
    let s = both (leb 1 i) (leb i m && are_places (i - 2) l) e in
    let t = both (leb i m) (are_places (i - 2) l) s.1 in
    (leb-true 1 i s.0, leb-true i m t.0, test_places (i - 2) l t.1)

pub places_test : (m : ℕ) (l : List ℕ) → Places m l → are_places m l ≡ true
unfolding are_places
places_test m [] p = refl
places_test m (i ∷ l) p = rw (le-leb 1 i p.0, le-leb i m p.1) (places_test (i - 2) l p.2)

-- the test from index k on, as a loop over the list makes it
are_places_drop : (m : ℕ) (l : List ℕ) (k : ℕ) → k < length l
    → are_places m (drop k l) ≡ (leb 1 (get_or l k 0) && (leb (get_or l k 0) m && are_places (get_or l k 0 - 2) (drop (k + 1) l)))
unfolding are_places
are_places_drop m l k h = rw (add-one, drop-cons l k 0 h)

pub are_places_zero : (m : ℕ) (l : List ℕ) (k : ℕ) → k < length l → get_or l k 0 ≡ 0 → are_places m (drop k l) ≡ false
are_places_zero m l k h e = are_places_drop m l k h ∙ rw e refl

pub are_places_high : (m : ℕ) (l : List ℕ) (k : ℕ) → k < length l → m < get_or l k 0 → are_places m (drop k l) ≡ false
are_places_high m l k h g = are_places_drop m l k h ∙ rw (lt-leb (get_or l k 0) m g) (and-false (leb 1 (get_or l k 0)))

pub are_places_on : (m : ℕ) (l : List ℕ) (k : ℕ) → k < length l → 1 ≤ get_or l k 0 → get_or l k 0 ≤ m → are_places m (drop k l) ≡ are_places (get_or l k 0 - 2) (drop (k + 1) l)
are_places_on m l k h low high = are_places_drop m l k h ∙ rw (le-leb 1 (get_or l k 0) low, le-leb (get_or l k 0) m high)

pub are_places_end : (m : ℕ) (l : List ℕ) (k : ℕ) → length l ≤ k → are_places m (drop k l) ≡ true
unfolding are_places
are_places_end m l k h = rw (drop_of_length-le l h)

-- each place of the list is from 1 to m, and what follows it lies below its neighbour
pub places_at : (m : ℕ) (l : List ℕ) (k : ℕ) → Places m l → k < length l → Places m (get_or l k 0 ∷ drop (suc k) l)
places_at m [] k p h = absurd (omega arith)
places_at m (i ∷ l) zero p h = p
places_at m (i ∷ l) (suc k) p h = let r = places_at (i - 2) l k p.2 (omega arith) in (r.0, omega arith, r.2)

-- ---- from a number to its list

places_wider : {m n : ℕ} (l : List ℕ) → m ≤ n → Places m l → Places n l
places_wider [] h p = tt
places_wider (i ∷ l) h p = (p.0, omega arith, p.2)

-- a list worth less than place m does not have it
places_tighter : (m : ℕ) (l : List ℕ) → Places m l → weight l < fib (suc m) → Places (m - 1) l
unfolding weight
places_tighter m [] p h = tt
places_tighter m (i ∷ l) p h = elim (dec_lt i m) [
  | yes k ↦ (p.0, omega arith, p.2)
  | no k ↦ absurd (omega (arith, fib_monotone {m = suc m} {n = suc i} (omega arith)))
]

pub greedy_places_take : (m n : ℕ) → fib (suc (suc m)) ≤ n → places (greedy (suc m) n) ≡ suc m ∷ places (greedy m (n - fib (suc (suc m))))
greedy_places_take m n h =
    let rest : ℕ = n - fib (suc (suc m)) in
    rw (greedy_take m n h, top_places m 1 (greedy m rest) (greedy_length m rest), one-add) refl

pub greedy_places : (m n : ℕ) → n < fib (suc (suc m)) → Places m (places (greedy m n))
unfolding places_from
greedy_places zero n h = rw greedy_zero tt
greedy_places (suc m) n h = elim (dec_lt n (fib (suc (suc m)))) [
  | yes k ↦ rw (greedy_skip m n k) (places_wider (places (greedy m n)) (omega arith) (greedy_places m n k))
  | no k ↦
      let rest : ℕ = n - fib (suc (suc m)) in
      let l : rest < fib (suc m) = omega (arith, fib_next (suc m), fib_positive m) in
      let l' : rest < fib (suc (suc m)) = omega (arith, fib_grows (suc m)) in
      rw (greedy_places_take m n (omega arith)) (
        omega arith,
        omega arith,
        places_wider (places (greedy m rest)) (omega arith)
            (places_tighter m (places (greedy m rest)) (greedy_places m rest l') (omega (arith, weight_places (greedy m rest), greedy_sum m rest l'))),
      )
]

-- the list of a number below the weight of place m + 1 has places from 1 to m
pub zeckendorf_places : (m n : ℕ) → n < fib (suc (suc m)) → Places m (places (zeckendorf n))
zeckendorf_places m n h = rw (zeckendorf_by m n h) (greedy_places m n h)

pub zeckendorf_places_64 : (n : ℕ) → n < 2 ^ 64 → Places 92 (places (zeckendorf n))
zeckendorf_places_64 n h = zeckendorf_places 92 n (fib_64 n h)

-- the service answers at most 46
pub places_most : (n room : ℕ) {count : ℕ} → n < 2 ^ 64 → places_outcome n room ≡ answered count → count ≤ 46
unfolding places_outcome
places_most n room h e = omega (arith, answer_is _ (length (places_of n)) e, zeckendorf_count_64 n h)

-- ---- from a list to its number

-- the form with these places
unfoldable pub form_with : List ℕ → List Bool
form_with [] = []
form_with (i ∷ l) = top_at (i - 1) (form_with l)

pub record FormWith (m : ℕ) (l : List ℕ) : Type 0 where
  pub form : Zeckendorf (form_with l)
  pub short : length (form_with l) ≤ m
  pub same : places (form_with l) ≡ l

pub form_with_lem : (m : ℕ) (l : List ℕ) → Places m l → FormWith m l
unfolding form_with places_from
form_with_lem m [] p = record { form = record { sparse = tt; topped = tt }; short = omega arith; same = refl }
form_with_lem m (i ∷ l) p =
    let f : FormWith (i - 2) l = form_with_lem (i - 2) l p.2 in
    record {
      form = top_zeckendorf (i - 1) (form_with l) f.form (omega (arith, f.short));
      short = omega (arith, top_length (i - 1) (form_with l) (omega (arith, f.short)));
      same = top_places (i - 1) 1 (form_with l) (omega (arith, f.short)) ∙ rw f.same (ap (λ (n : ℕ). n ∷ l) (omega arith));
    }

-- it is the form of the number that the list stands for
form_weight : (m : ℕ) (l : List ℕ) → Places m l → form_with l ≡ zeckendorf (weight l)
form_weight m l p =
    let f : FormWith m l = form_with_lem m l p in
    zeckendorf_only (form_with l) f.form ∙ ap zeckendorf (sym (weight_places (form_with l)) ∙ ap weight f.same)

-- the list of that number is the list itself
pub places_zeckendorf : (m : ℕ) (l : List ℕ) → Places m l → places (zeckendorf (weight l)) ≡ l
places_zeckendorf m l p = ap places (sym (form_weight m l p)) ∙ (form_with_lem m l p).same

-- the form with the places of a number's form is that form
pub form_zeckendorf : (n : ℕ) → form_with (places (zeckendorf n)) ≡ zeckendorf n
form_zeckendorf n =
    form_weight n (places (zeckendorf n)) (zeckendorf_places n n (fib_exceeds n))
    ∙ ap zeckendorf (weight_places (zeckendorf n) ∙ zeckendorf_sum n)

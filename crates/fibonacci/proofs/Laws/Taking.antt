-- What the loop that takes the places of the greedy form keeps: the places taken so far, followed by those of the rest from
-- place i down, are the list of n.
use Rattle.std.proofs.Common.{◌≡◌, ℕ, zero, suc, ◌+◌, ◌-◌, ◌≤◌, ◌<◌, ◌^◌, List, [], ◌∷◌, ◌++◌, length, take, sym, ap, ◌∙◌, arith, append_assoc, append-nil, length-append}
use Rattle.std.proofs.lemmas.List.{take_all}
use native.Mathlib.Numerals.{add-two, sub-one}
use Rattle.fibonacci.specs.Fibonacci.{fib}
use Rattle.fibonacci.specs.Forms.{places_from, places, greedy}
use Rattle.fibonacci.specs.Services.{places_of}
use Rattle.fibonacci.proofs.Laws.Fibonacci.{fib_next, fib_positive}
use Rattle.fibonacci.proofs.Laws.Zeckendorf.{greedy_zero, greedy_skip, zeckendorf_by, zeckendorf_count_64}
use Rattle.fibonacci.proofs.Laws.Places.{greedy_places_take}

pub record Taking (n : ℕ) (taken : List ℕ) (rest i : ℕ) : Type 0 where
  pub small : n < 2 ^ 64
  pub place : i ≤ 92
  pub left : rest < fib (i + 2)
  pub list : taken ++ places (greedy i rest) ≡ places_of n

-- it starts at any place from 1 to 92 that is high enough
pub taking_starts : (n i : ℕ) → n < 2 ^ 64 → i ≤ 92 → n < fib (suc (suc i)) → Taking n [] n i
taking_starts n i h high left = record {
  small = h;
  place = high;
  left = rw add-two left;
  list = ap places (sym (zeckendorf_by i n left));
}

-- a place whose weight is left is the next, and finds room: the list of n has at most 46 places
pub taking_takes : {n : ℕ} {taken : List ℕ} {rest i weight : ℕ} → Taking n taken rest i → 0 < i → weight ≡ fib (suc i) → weight ≤ rest
    → Taking n (take 46 (taken ++ i ∷ [])) (rest - weight) (i - 1)
taking_takes {i = zero} t p e h = absurd (omega arith)
taking_takes {n} {taken} {rest} {i = suc i} {weight} t p e h =
    let h' : fib (suc (suc i)) ≤ rest = rw e at h in
    let l : rest < fib (suc (suc (suc i))) = rw add-two at t.left in
    let more : (taken ++ suc i ∷ []) ++ places (greedy i (rest - fib (suc (suc i)))) ≡ places_of n = rw append_assoc (rw (greedy_places_take i rest h') at t.list) in
    let room : length (taken ++ suc i ∷ []) ≤ 46 = omega (
      arith,
      ap length more,
      length-append (taken ++ suc i ∷ []) (places (greedy i (rest - fib (suc (suc i))))),
      zeckendorf_count_64 n t.small,
    ) in
    rw (take_all 46 _ room, e, sub-one)
    (record {
      small = t.small;
      place = omega (arith, t.place);
      left = rw add-two (omega (arith, fib_next (suc i), fib_next i, fib_positive i));
      list = more;
    })

pub taking_skips : {n : ℕ} {taken : List ℕ} {rest i weight : ℕ} → Taking n taken rest i → 0 < i → weight ≡ fib (suc i) → rest < weight → Taking n taken rest (i - 1)
taking_skips {i = zero} t p e h = absurd (omega arith)
taking_skips {n} {taken} {rest} {i = suc i} t p e h =
    let h' : rest < fib (suc (suc i)) = rw e at h in
    rw sub-one
    (record {
      small = t.small;
      place = omega (arith, t.place);
      left = rw add-two h';
      list = rw (greedy_skip i rest h') at t.list;
    })

pub taking_ends : {n : ℕ} {taken : List ℕ} {rest i : ℕ} → Taking n taken rest i → i ≤ 0 → taken ≡ places_of n
unfolding places_from
taking_ends {i = suc i} t h = absurd (omega arith)
taking_ends {n} {taken} {rest} {i = zero} t h = sym (append-nil taken) ∙ rw (greedy_zero rest) at t.list

-- What a loop keeps that tests a list of places and sums their weights modulo 2^64: the test of the whole list is that of what is left of it,
-- below the place passed last, and the sum with what is left comes to the weight of the list. A list of places that exceeds 64 bits is
-- told by the sum: it is then below the weight of the highest place, since the weight of the list is below the sum of that and the next.
use mathlib.Core.Path.{◌≡◌, refl, sym, ap, ◌∙◌}
use mathlib.Core.Bool.{true, false}
use mathlib.Core.List.{List, [], ◌∷◌}
use Prim.Native.Nat.{ℕ, zero, suc, ◌+◌, ◌-◌, ◌%◌, ◌≤◌, ◌<◌, ◌^◌}
use native.Mathlib.Nat.{le_refl}
use native.Mathlib.Numerals.{add-one}
use native.Mathlib.Omega.{arith}
use lib.ListN.{length, drop, get_or, drop_of_length-le}
use lib.Seq.{drop-cons}
use Rattle.fibonacci.specs.Fibonacci.{fib}
use Rattle.fibonacci.specs.Forms.{weight, Places, are_places}
use Rattle.fibonacci.specs.Services.{last_place}
use Rattle.fibonacci.proofs.Laws.Fibonacci.{fib_zero, fib_one, fib_next, fib_positive, fib_monotone, fib_fits}
use Rattle.fibonacci.proofs.Laws.Places.{are_places_zero, are_places_high, are_places_on, are_places_end}

pub record Summing (l : List ℕ) (above sum i : ℕ) : Type 0 where
  pub within : i ≤ length l
  pub tested : 0 < above → are_places (above - 2) (drop i l) ≡ are_places last_place l
  pub spoilt : above ≡ 0 → are_places last_place l ≡ false
  pub summed : (sum + weight (drop i l)) % 2 ^ 64 ≡ weight l % 2 ^ 64

pub summing_starts : (l : List ℕ) → Summing l 94 0 0
summing_starts l = record { within = omega arith; tested = λ some. refl; spoilt = λ e. absurd (omega arith); summed = omega arith }

-- one place more in front of what is left
weight_drop : (l : List ℕ) (i : ℕ) → i < length l → weight (drop i l) ≡ fib (get_or l i 0 + 1) + weight (drop (i + 1) l)
unfolding weight
weight_drop l i h = simp add-one (rw (drop-cons l i 0 h))

module _ {l : List ℕ} {above sum i : ℕ} (s : Summing l above sum i) where
  pub summing_next : {f next : ℕ} → i < length l → get_or l i 0 + 2 ≤ above → f ≡ fib (get_or l i 0 + 1) → next ≡ (sum + f) % 2 ^ 64 → Summing l (get_or l i 0) next (i + 1)
  summing_next h low e n = record {
    within = omega arith;
    tested = λ some. sym (are_places_on (above - 2) l i h some (omega arith)) ∙ s.tested (omega arith);
    spoilt = λ z. sym (s.tested (omega arith)) ∙ are_places_zero (above - 2) l i h z;
    summed = omega (arith, s.summed, weight_drop l i h);
  }

  -- a place that is too high
  pub summing_stops : i < length l → above < get_or l i 0 + 2 → are_places last_place l ≡ false
  summing_stops h high = go (above) (get_or l i 0) refl refl
    where
      go : (a p : ℕ) → above ≡ a → get_or l i 0 ≡ p → are_places last_place l ≡ false
      go zero p d e = s.spoilt d
      go (suc a) zero d e = sym (s.tested (omega arith)) ∙ are_places_zero (above - 2) l i h e
      go (suc a) (suc p) d e = sym (s.tested (omega arith)) ∙ are_places_high (above - 2) l i h (omega arith)

  pub summing_ends : length l ≤ i → 0 < above → are_places last_place l ≡ true
  summing_ends h some = sym (s.tested some) ∙ are_places_end (above - 2) l i h

  pub summing_sum : length l ≤ i → sum < 2 ^ 64 → sum ≡ weight l % 2 ^ 64
  unfolding weight
  summing_sum h small = omega (arith, s.summed, ap weight (drop_of_length-le l h))

-- ---- the weight of a list of places

weight_below : (m : ℕ) (l : List ℕ) → Places m l → weight l < fib (suc (suc m))
unfolding weight
weight_below m [] p = fib_positive (suc m)
weight_below m (zero ∷ l) p = absurd (omega arith)
weight_below m (suc zero ∷ l) p =
    omega (arith, weight_below 0 l p.2, fib_next 1, fib_next 0, fib_one, fib_zero, fib_monotone {m = 3} {n = suc (suc m)} (omega arith))
weight_below m (suc (suc i) ∷ l) p =
    let less : suc (suc i) - 2 ≡ i = omega arith in
    omega (arith, weight_below i l (rw less at p.2), fib_next (suc (suc i)), fib_monotone {m = suc (suc (suc (suc i)))} {n = suc (suc m)} (omega arith))

-- with the weight f of the highest place
pub sum_short : {f sum : ℕ} (l : List ℕ) → 0 < length l → f ≡ fib (get_or l 0 0 + 1) → sum ≡ weight l % 2 ^ 64 → sum < f → 2 ^ 64 ≤ weight l
unfolding weight
sum_short [] some w e h = absurd (omega arith)
sum_short (p ∷ l) some w e h = omega (arith, rw add-one at w)

pub sum_whole : {f sum : ℕ} (l : List ℕ) → Places last_place l → 0 < length l → f ≡ fib (get_or l 0 0 + 1) → sum ≡ weight l % 2 ^ 64 → f ≤ sum → weight l < 2 ^ 64
unfolding weight
sum_whole [] places some w e h = absurd (omega arith)
sum_whole (p ∷ l) places some w e h =
    omega (
      arith,
      rw add-one at w,
      weight_below p (p ∷ l) (places.0, le_refl p, places.2),
      fib_next p,
      fib_fits p (omega (arith, places.1)),
      fib_fits (suc p) (omega (arith, places.1)),
    )

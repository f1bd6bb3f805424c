-- `number_of_places` meets its contract: the loop tests the whole list, so 13 comes before 12, and sums it modulo 2^64 (Laws/Summing).
use Rattle.std.proofs.Common.{◌≡◌, ℕ, ◌+◌, ◌%◌, ◌^◌, ◌<◌, ◌≤◌, true, false, not, leb, List, [], ◌∷◌, length, get_or, Some, None, sym, refl, ap, ◌∙◌, arith, le-leb}
use borrow.Author.Tests.{lt-leb}
use Rattle.std.specs.List.{slice_get}
use Rattle.std.proofs.lemmas.Option.{none-some, same_Some}
use Rattle.refusal.specs.declared.Refusal.TheVariants.{Range, Index}
use Rattle.refusal.specs.Outcomes.{refused, answered, ◌given_if◌, gives, passes, answers}
use Rattle.fibonacci.specs.Fibonacci.{fib}
use Rattle.fibonacci.specs.Forms.{weight, are_places}
use Rattle.fibonacci.specs.Services.{last_place, fibonacci_or_zero, number_outcome}
use Rattle.fibonacci.proofs.Laws.Fibonacci.{fibonacci_below_94}
use Rattle.fibonacci.proofs.Laws.Places.{test_places, places_at}
use Rattle.fibonacci.proofs.Laws.Summing.{Summing, summing_starts, summing_next, summing_stops, summing_ends, summing_sum, sum_short, sum_whole}
use Rattle.places.proofs.number_of_places.Goals as goal

-- ---- each return is a case of the list of refusals

no_places : (l : List ℕ) → are_places last_place l ≡ false → refused 13 ≡ number_outcome l
unfolding number_outcome
no_places l e = sym (gives Index _ _ (ap not e))

module _ (l : List ℕ) (e : are_places last_place l ≡ true) where
  too_high : 2 ^ 64 ≤ weight l → refused 12 ≡ number_outcome l
  unfolding number_outcome
  too_high h = sym (passes Index ((Range given_if leb (2 ^ 64) (weight l)) ∷ []) (weight l) (ap not e) ∙ gives Range [] (weight l) (le-leb (2 ^ 64) (weight l) h))

  fits : {sum : ℕ} → weight l < 2 ^ 64 → sum ≡ weight l % 2 ^ 64 → answered sum ≡ number_outcome l
  unfolding number_outcome
  fits h s =
      ap answered (omega arith)
      ∙ sym (passes Index ((Range given_if leb (2 ^ 64) (weight l)) ∷ []) (weight l) (ap not e) ∙ passes Range [] (weight l) (lt-leb (2 ^ 64) (weight l) h) ∙ answers (weight l))

no_place : (l : List ℕ) → None ≡ slice_get l 0 → answered 0 ≡ number_outcome l
unfolding are_places weight
no_place [] e = fits [] refl (omega arith) refl
no_place (i ∷ l) e = absurd (none-some _ e)

first_is : (l : List ℕ) (h : ℕ) → Some h ≡ slice_get l 0 → (0 < length l) × (h ≡ get_or l 0 0)
first_is [] h e = absurd (none-some _ (sym e))
first_is (x ∷ l) h e = (omega arith, same_Some _ _ e)

-- past the loop the list is one of places, the sum is its weight modulo 2^64, and the weight of its highest place is known
module _ {l : List ℕ} {above sum i h n f : ℕ} (s : Summing l above sum i) (ends : length l ≤ i) (open_end : 0 < above) (small : sum < 2 ^ 64)
    (first : Some h ≡ slice_get l 0) (number : n ≡ h) (e : f ≡ fibonacci_or_zero (n + 1)) where
  tested : are_places last_place l ≡ true
  tested = summing_ends s ends open_end

  some : 0 < length l
  some = (first_is l h first).0

  weighs : f ≡ fib (get_or l 0 0 + 1)
  weighs =
      let highest = number ∙ (first_is l h first).1 in
      fibonacci_below_94 (e ∙ ap (λ p. fibonacci_or_zero (p + 1)) highest) (omega (arith, (places_at 92 l 0 (test_places 92 l tested) some).1))

  sum_too_high : sum < f → refused 12 ≡ number_outcome l
  sum_too_high h = too_high l tested (sum_short l some weighs (summing_sum s ends small) h)

  sum_fits : f ≤ sum → answered sum ≡ number_outcome l
  sum_fits h = fits l tested (sum_whole l (test_places 92 l tested) some weighs (summing_sum s ends small) h) (summing_sum s ends small)

pub returns-in_default : goal.returns-in_default
returns-in_default c = no_place _ c.in_default.ensures.value

-- ---- the loop

pub loop-place-init : goal.loop-place-init
loop-place-init c = (summing_starts _, omega arith, omega arith)

pub returns-then-above-place : goal.returns-then-above-place
returns-then-above-place c =
    no_places _ (summing_stops c.loop-place.invariant.0 c.loop-place-test.true (omega (arith, c.if-above-place.true, c.from-place.ensures)))

pub overflow_add-place-in-loop-place : goal.overflow_add-place-in-loop-place
overflow_add-place-in-loop-place c = omega (arith, c.if-above-place.false, c.loop-place.invariant.1)

pub loop-place-preserved : goal.loop-place-preserved
loop-place-preserved c =
    let inv = c.loop-place.invariant in
    let fits = c.if-above-place.false in
    let place = c.from-place.ensures in
    let weighs = fibonacci_below_94 (c.fibonacci_or_zero.ensures ∙ ap (λ p. fibonacci_or_zero (p + 1)) place) (omega (arith, fits, place, inv.1)) in (
      rw place (summing_next inv.0 c.loop-place-test.true (omega (arith, fits, place)) weighs c.wrapping_add_u64-sum.ensures.value),
      omega (arith, fits, inv.1),
      omega arith,
    )

-- ---- past it

pub returns-then-above-eq0 : goal.returns-then-above-eq0
returns-then-above-eq0 c = no_places _ (c.loop-place.invariant.0.spoilt c.if-above-eq0.true)

pub returns-then-sum-fibonacci_or_zero : goal.returns-then-sum-fibonacci_or_zero
returns-then-sum-fibonacci_or_zero c =
    sum_too_high c.loop-place.invariant.0 c.loop-place-test.false (omega arith) (omega arith) c.in-Some.ensures.value c.from.ensures c.fibonacci_or_zero-2.ensures
    c.if-sum-fibonacci_or_zero.true

pub returns : goal.returns
returns c =
    sum_fits c.loop-place.invariant.0 c.loop-place-test.false (omega arith) (omega arith) c.in-Some.ensures.value c.from.ensures c.fibonacci_or_zero-2.ensures
    c.if-sum-fibonacci_or_zero.false

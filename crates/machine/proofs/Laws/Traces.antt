-- A trace step by step: from exponents in range a step leaves the range exactly where the number that it makes does, and then the steps
-- behind it don't stay in it either; where it doesn't, they go on from where it leads.
use mathlib.Core.Path.{◌≡◌, refl, sym, ap, ap₂, ◌∙◌}
use mathlib.Core.Bool.{true, false, ◌&&◌, true≢false}
use mathlib.Core.List.{List, ◌∷◌}
use Prim.Native.Nat.{ℕ, ◌+◌, ◌≤◌, ◌<◌}
use lib.IntN.{ℤ}
use lib.ListN.{length, get_or, drop, drop_of_length-le}
use Rattle.refusal.proofs.Laws.Tests.{test_false}
use Rattle.tape.specs.declared.Step.{Step}
use Rattle.tape.proofs.Laws.Rows.{drop_next}
use Rattle.machine.specs.Exponents.{shift, shift_all, all_in_range, stays_in_range, makes_in_range, shift_in_range}
use Rattle.machine.proofs.Laws.Ranges.{stays_first}
use Rattle.machine.proofs.Laws.Sums.{step_range}

-- what the steps xs make of z is what the steps ys, which are left, make of w
pub record RestOfTrace (xs : List Step) (z : List ℤ) (ys : List Step) (w : List ℤ) : Type 0 where
  pub inside : all_in_range w ≡ true
  pub stays : stays_in_range ys w ≡ stays_in_range xs z
  pub ends : shift_all ys w ≡ shift_all xs z

pub all_left : (xs : List Step) (z : List ℤ) → all_in_range z ≡ true → RestOfTrace xs z xs z
all_left xs z r = record { inside = r; stays = refl; ends = refl }

module _ {xs : List Step} {z : List ℤ} where
  pub none_left : (i : ℕ) (w : List ℤ) → length xs ≤ i → RestOfTrace xs z (drop i xs) w → (true ≡ stays_in_range xs z) × (w ≡ shift_all xs z)
  unfolding stays_in_range shift_all
  none_left i w past l =
      let none = drop_of_length-le xs past in
      (sym l.inside ∙ sym (ap (λ (ys : List Step). stays_in_range ys w) none) ∙ l.stays, sym (ap (λ (ys : List Step). shift_all ys w) none) ∙ l.ends)

  module _ (i : ℕ) (x other : Step) (w : List ℤ) (at : x ≡ get_or xs i other) (h : i < length xs) (l : RestOfTrace xs z (drop i xs) w) where
    from_there : drop i xs ≡ x ∷ drop (i + 1) xs
    from_there = drop_next xs i (i + 1) other refl h ∙ ap (λ (y : Step). y ∷ drop (i + 1) xs) (sym at)

    stays_on : (all_in_range w && stays_in_range (drop (i + 1) xs) (shift x w)) ≡ stays_in_range xs z
    unfolding stays_in_range
    stays_on = sym (ap (λ (ys : List Step). stays_in_range ys w) from_there) ∙ l.stays

    -- the next step leaves the range
    pub leaves : false ≡ makes_in_range x w → false ≡ stays_in_range xs z
    leaves out =
        let gone = step_range x w l.inside ∙ sym out in
        let rest = test_false (stays_in_range (drop (i + 1) xs) (shift x w)) (λ s. true≢false (sym (stays_first _ _ s) ∙ gone)) in
        sym (ap₂ ◌&&◌ l.inside rest) ∙ stays_on

    -- or doesn't
    pub goes_on : (v : List ℤ) → true ≡ makes_in_range x w → v ≡ shift_in_range x w → RestOfTrace xs z (drop (i + 1) xs) v
    unfolding shift_in_range shift_all
    goes_on v in_range_lem is =
        let there : v ≡ shift x w = is ∙ rw (sym in_range_lem) in
        record {
          inside = ap all_in_range there ∙ step_range x w l.inside ∙ sym in_range_lem;
          stays = ap (stays_in_range (drop (i + 1) xs)) there ∙ sym (ap (λ t. t && stays_in_range (drop (i + 1) xs) (shift x w)) l.inside) ∙ stays_on;
          ends = ap (shift_all (drop (i + 1) xs)) there ∙ sym (ap (λ (ys : List Step). shift_all ys w) from_there) ∙ l.ends;
        }

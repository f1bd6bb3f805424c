-- The way through a list of steps: what the steps that are left make of the values so far is what all make of the first values, and so
-- for the inverses beside them.
use mathlib.Core.Path.{◌≡◌, refl, sym, ◌∙◌, ap, ap₂}
use mathlib.Core.Bool.{Bool, true, false}
use mathlib.Core.List.{List, [], ◌∷◌}
use Prim.Native.Nat.{ℕ, suc, ◌+◌, ◌-◌, ◌≤◌, ◌<◌}
use native.Mathlib.Omega.{arith}
use lib.ListN.{length, get_or, take, drop, drop_of_length-le}
use lib.Seq.{take_all, take-suc, drop-cons}
use Rattle.tape.specs.declared.Step.{Step}
use Rattle.tape.specs.Inner.Operations.{raw_steps}
use Rattle.tape.proofs.Laws.Rows.{raw_count, raw_nth}
use Rattle.machine.specs.Machine.{inverse_step, inverted}
use Rattle.machine.specs.Inner.Carried.{apply_with, do_all_with, directed_steps}
use Rattle.machine.proofs.Laws.Steps.{inverted_append}
use Rattle.machine.proofs.Laws.Carried.{length_with}
use Rattle.register_steps.specs.Inner.Ways.{directed_step, steps_after}

pub record Going (product : ℕ → ℕ → ℕ) (all rest : List Step) (v₀ w₀ v w : List ℕ) : Type 0 where
  pub values : do_all_with product rest v w ≡ do_all_with product all v₀ w₀
  pub inverses : do_all_with product rest w v ≡ do_all_with product all w₀ v₀
  pub values_long : length v ≡ length v₀
  pub inverses_long : length w ≡ length w₀

module _ (product : ℕ → ℕ → ℕ) (all rest : List Step) (v₀ w₀ : List ℕ) where
  pub going_start : rest ≡ all → Going product all rest v₀ w₀ v₀ w₀
  going_start same =
      record {
        values = ap (λ (l : List Step). do_all_with product l v₀ w₀) same;
        inverses = ap (λ (l : List Step). do_all_with product l w₀ v₀) same;
        values_long = refl;
        inverses_long = refl;
      }

  module _ (v w : List ℕ) where
    pub going_next : (x : Step) (less : List Step) (v' w' : List ℕ) → rest ≡ x ∷ less → v' ≡ apply_with product x v w → w' ≡ apply_with product x w v
        → Going product all rest v₀ w₀ v w → Going product all less v₀ w₀ v' w'
    unfolding do_all_with
    going_next x less v' w' first ev ew g =
        record {
          values = rw (ev, ew) (ap (λ (l : List Step). do_all_with product l v w) (sym first) ∙ g.values);
          inverses = rw (ev, ew) (ap (λ (l : List Step). do_all_with product l w v) (sym first) ∙ g.inverses);
          values_long = ap length ev ∙ length_with product x v w ∙ g.values_long;
          inverses_long = ap length ew ∙ length_with product x w v ∙ g.inverses_long;
        }

    pub going_end : rest ≡ [] → Going product all rest v₀ w₀ v w → (v ≡ do_all_with product all v₀ w₀) × (w ≡ do_all_with product all w₀ v₀)
    unfolding do_all_with
    going_end none g = (
      ap (λ (l : List Step). do_all_with product l v w) (sym none) ∙ g.values,
      ap (λ (l : List Step). do_all_with product l w v) (sym none) ∙ g.inverses,
    )

-- ---- the steps that come after i others

module _ (words : List ℕ) where
  pub after_none : (undone : Bool) → steps_after undone words 0 ≡ directed_steps undone (raw_steps words)
  after_none true = ap inverted (take_all (length words - 0) (raw_steps words) (omega (arith, raw_count words)))
  after_none false = refl

  pub after_all_lem : (undone : Bool) (i : ℕ) → length words ≤ i → steps_after undone words i ≡ []
  unfolding inverted
  after_all_lem true i past = let none : length words - i ≡ 0 = omega arith in ap (λ (n : ℕ). inverted (take n (raw_steps words))) none
  after_all_lem false i past = let none : length (raw_steps words) ≤ i = omega (arith, raw_count words) in drop_of_length-le (raw_steps words) none

  pub after_next : (undone : Bool) (i : ℕ) → i < length words → steps_after undone words i ≡ directed_step undone words i ∷ steps_after undone words (i + 1)
  unfolding inverted
  after_next true i inside =
      let k : ℕ = length words - 1 - i in
      let here : length words - i ≡ suc k = omega arith in
      let next : k ≡ length words - (i + 1) = omega arith in
      ap (λ (n : ℕ). inverted (take n (raw_steps words))) here
      ∙ ap inverted (take-suc (raw_steps words) k _ (omega (arith, raw_count words)))
      ∙ inverted_append (take k (raw_steps words)) (get_or (raw_steps words) k _ ∷ [])
      ∙ ap₂ (λ (x : Step) (n : ℕ). inverse_step x ∷ inverted (take n (raw_steps words))) (raw_nth words k) next
  after_next false i inside =
      let next : suc i ≡ i + 1 = omega arith in
      drop-cons (raw_steps words) i _ (omega (arith, raw_count words))
      ∙ ap₂ (λ (x : Step) (n : ℕ). x ∷ drop n (raw_steps words)) (raw_nth words i) next

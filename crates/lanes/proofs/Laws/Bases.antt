-- A row of bases: each lane sets out from the forms of (1, a, 1, 1) beside their inverses, the steps are done in it, and what is in its
-- register 1 comes in a's place. On residues modulo an odd prime that is register 1 of what the steps make of (1, a, 1, 1).
use mathlib.Core.Path.{◌≡◌, refl, sym, ◌∙◌, ap, ap₂}
use mathlib.Core.List.{List, [], ◌∷◌, map}
use Prim.Native.Nat.{ℕ, zero, suc, ◌+◌, ◌*◌, ◌%◌, ◌≤◌, ◌<◌}
use native.Mathlib.Omega.{arith}
use lib.ListN.{length, get_or, replicate, get_or-replicate, length-map}
use lib.Seq.{ext_get_or}
use Rattle.modular.specs.Primes.{Prime}
use Rattle.modular.specs.Residues.{Residue}
use Rattle.modular.specs.Inverses.{inverse}
use Rattle.modular.proofs.Laws.Group.{inverse_one}
use Rattle.tape.specs.declared.Step.{Step}
use Rattle.tape.specs.Steps.{AllSound}
use Rattle.montgomery.specs.declared.Modulus.{Modulus}
use Rattle.montgomery.specs.Inner.Forms.{word, form_of, IsModulus, form_times, enter, leave, form_inverse}
use Rattle.montgomery.proofs.Laws.Forms.{enter_form, inverse_form}
use Rattle.machine.specs.Machine.{reg, do_all, start}
use Rattle.machine.specs.Inner.Carried.{inverses, do_all_with}
use Rattle.machine.proofs.Laws.Lists.{get_d_map}
use Rattle.machine.proofs.Laws.Steps.{residues_start}
use Rattle.register_forms.proofs.Laws.Forms.{arrive_in_forms}
use Rattle.lanes.specs.Inner.Lanes.{max_lanes, all_words, entry, lane, BasesIn, AllStepped, Unloaded, start_forms, start_inverses, through}
use Rattle.lanes.proofs.Laws.Rows.{lane_is}

-- a lane whose register 1 is known, and has ones otherwise
module _ (rows : List ℕ) (from j one x : ℕ) (here : entry rows (from + 1) j ≡ x) (others : (i : ℕ) → i < 4 → ¬ (i ≡ 1) → entry rows (from + i) j ≡ one) where
  each : (i : ℕ) → i < 4 → entry rows (from + i) j ≡ reg (one ∷ x ∷ one ∷ one ∷ []) i
  each zero less = others zero less (λ e. omega arith)
  each (suc zero) less = here
  each (suc (suc zero)) less = others (suc (suc zero)) less (λ e. omega arith)
  each (suc (suc (suc zero))) less = others (suc (suc (suc zero))) less (λ e. omega arith)
  each (suc (suc (suc (suc i)))) less = absurd (omega arith)

  base_lane : lane rows from j ≡ one ∷ x ∷ one ∷ one ∷ []
  base_lane = lane_is rows from j (one ∷ x ∷ one ∷ one ∷ []) refl each

module _ (m : Modulus) (bases loaded : List ℕ) (few : length bases ≤ max_lanes) (c : BasesIn m bases (replicate all_words (enter m 1)) loaded) where
  ones : (i j : ℕ) → i < 8 → j < max_lanes → ¬ (i ≡ 1) → ¬ (i ≡ 5) → entry loaded i j ≡ enter m 1
  ones i j row inside ne ne' = c.others i j ne ne' inside ∙ get_or-replicate all_words (max_lanes * i + j) (enter m 1) 0 (omega arith)

  module _ (j : ℕ) (less : j < length bases) where
    start_lane : lane loaded 0 j ≡ start_forms m (get_or bases j 0)
    start_lane =
        base_lane loaded 0 j _ _ (c.first j less (λ e. omega arith))
        (λ i low ne. ones (0 + i) j (omega arith) (omega arith) (λ e. ne (omega arith)) (λ e. omega arith))

    start_inverses_lem : lane loaded 4 j ≡ start_inverses m (get_or bases j 0)
    start_inverses_lem =
        base_lane loaded 4 j _ _ (c.second j less)
        (λ i low ne. ones (4 + i) j (omega arith) (omega arith) (λ e. omega arith) (λ e. ne (omega arith)))

  pub lanes_through : (xs : List Step) (done after : List ℕ) → AllStepped m xs (length bases) loaded done → Unloaded m done bases after
      → after ≡ map (through m xs) bases
  unfolding through
  lanes_through xs done after stepped u =
      ext_get_or 0 after (map (through m xs) bases) (u.long ∙ sym (length-map bases (through m xs)))
      (λ j less.
      let inside : j < length bases = omega (arith, u.long) in
      u.each j inside
      ∙ ap (λ (l : List ℕ). leave m (reg l 1)) (stepped.each j inside ∙ ap₂ (do_all_with (form_times m) xs) (start_lane j inside) (start_inverses_lem j inside))
      ∙ sym (get_d_map (through m xs) bases j 0 0 inside))

-- ---- on residues

module _ (p : ℕ) (m : Modulus) (pr : Prime p) (odd : p % 2 ≡ 1) (fits : p ≤ word) (is : IsModulus p m) (a : ℕ) (r : Residue p a) where
  enter_one : enter m 1 ≡ form_of p 1
  enter_one = enter_form p m odd fits is 1 (omega arith)

  enter_base : enter m a ≡ form_of p a
  enter_base = enter_form p m odd fits is a (omega (arith, r.high))

  inverse_of_one : enter m 1 ≡ form_of p (inverse p 1)
  inverse_of_one = enter_one ∙ ap (form_of p) (sym (inverse_one p pr))

  inverse_of_base : form_inverse m (enter m a) ≡ form_of p (inverse p a)
  inverse_of_base = ap (form_inverse m) enter_base ∙ inverse_form p m odd fits is a r.high

  forms_are : start_forms m a ≡ map (form_of p) (start a)
  forms_are = ap₂ (λ (x y : ℕ). x ∷ y ∷ x ∷ x ∷ []) enter_one enter_base

  inverses_are : start_inverses m a ≡ map (form_of p) (inverses p (start a))
  inverses_are = ap₂ (λ (x y : ℕ). x ∷ y ∷ x ∷ x ∷ []) inverse_of_one inverse_of_base

  pub through_done : (xs : List Step) → AllSound xs → through m xs a ≡ reg (do_all p xs (start a)) 1
  unfolding through
  through_done xs sound =
      ap (λ (l : List ℕ). reg l 1) (arrive_in_forms p m pr odd fits is xs (start a) _ _ sound (residues_start p pr a r) forms_are inverses_are)

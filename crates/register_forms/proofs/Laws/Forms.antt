-- On residues modulo an odd prime: forms multiply as the residues do, so steps on the forms make the forms of what the steps make of the
-- residues, and the registers that leave the form are those.
use mathlib.Core.Path.{◌≡◌, ◌∙◌, ap, ap₂}
use mathlib.Core.List.{List, map}
use Prim.Native.Nat.{ℕ, ◌%◌, ◌≤◌, ◌<◌}
use native.Mathlib.Nat.{mod-eq_of_lt, mod-lt}
use native.Mathlib.Omega.{arith}
use Rattle.modular.specs.Primes.{Prime}
use Rattle.modular.specs.Residues.{times}
use Rattle.modular.specs.Inverses.{inverse}
use Rattle.modular.proofs.Laws.Residues.{times_is}
use Rattle.montgomery.specs.declared.Modulus.{Modulus}
use Rattle.montgomery.specs.Inner.Forms.{word, form_of, IsModulus, form_times, enter, leave, form_inverse}
use Rattle.montgomery.proofs.Laws.Forms.{form_zero, form_times_lem, enter_form, leave_form, inverse_form}
use Rattle.tape.specs.declared.Step.{Step}
use Rattle.tape.specs.Steps.{AllSound}
use Rattle.machine.specs.Machine.{reg, do_all, Residues}
use Rattle.machine.specs.Inner.Carried.{first_four, inverses, do_all_with, inverses_with}
use Rattle.machine.proofs.Laws.Lists.{four_first}
use Rattle.machine.proofs.Laws.Steps.{residues_do_all}
use Rattle.machine.proofs.Laws.Carried.{reg_map, do_with_inverses, inverses_are, do_forms, inverses_forms}

module _ (p : ℕ) (m : Modulus) (pr : Prime p) (odd : p % 2 ≡ 1) (fits : p ≤ word) (is : IsModulus p m) where
  -- into the form, and out of it
  entered : (v : List ℕ) → Residues p v → map (enter m) (first_four v) ≡ map (form_of p) v
  entered v g =
      let at : (i : ℕ) → i < 4 → enter m (reg v i) ≡ form_of p (reg v i) = λ i h. enter_form p m odd fits is (reg v i) (omega (arith, (g.residue i h).high)) in
      cc (at 0 (omega arith), at 1 (omega arith), at 2 (omega arith), at 3 (omega arith), ap (map (form_of p)) (four_first 0 v g.four))

  left : (v : List ℕ) → Residues p v → map (leave m) (first_four (map (form_of p) v)) ≡ v
  left v g =
      let at : (i : ℕ) → i < 4 → leave m (reg (map (form_of p) v) i) ≡ reg v i =
      λ i h. ap (leave m) (reg_map (form_of p) (form_zero p) v i) ∙ leave_form p m odd fits is (reg v i) ∙ mod-eq_of_lt (g.residue i h).high in
      cc (at 0 (omega arith), at 1 (omega arith), at 2 (omega arith), at 3 (omega arith), four_first 0 v g.four)

  forms_inverted : (v : List ℕ) → Residues p v → inverses_with (form_times m) (form_inverse m) (map (form_of p) v) ≡ map (form_of p) (inverses p v)
  forms_inverted v g =
      inverses_forms (form_of p) (form_zero p) (times p) (form_times m) (form_times_lem p m odd fits is) (inverse p) (form_inverse m) v
      (λ x y. inverse_form p m odd fits is (times p x y) (rw (times_is p x y (omega arith)) (mod-lt _ (omega arith))))
      ∙ ap (map (form_of p)) (inverses_are p pr v g)

  -- so the registers that set out in the form beside their inverses arrive as the steps have it
  pub arrive_in_forms : (xs : List Step) (v values inverses₀ : List ℕ) → AllSound xs → Residues p v → values ≡ map (form_of p) v
      → inverses₀ ≡ map (form_of p) (inverses p v) → map (leave m) (first_four (do_all_with (form_times m) xs values inverses₀)) ≡ do_all p xs v
  arrive_in_forms xs v values inverses₀ sound g forms beside =
      let there : do_all_with (form_times m) xs values inverses₀ ≡ map (form_of p) (do_all p xs v) =
      ap₂ (do_all_with (form_times m) xs) forms beside
      ∙ do_forms (form_of p) (form_zero p) (times p) (form_times m) (form_times_lem p m odd fits is) xs v (inverses p v)
      ∙ ap (map (form_of p)) (do_with_inverses p pr xs v sound g) in
      ap (λ (l : List ℕ). map (leave m) (first_four l)) there ∙ left (do_all p xs v) (residues_do_all p pr xs v sound g)

  -- as they do where the inverses are found by products
  pub run_in_forms : (xs ys : List Step) (v values inverses₀ after : List ℕ) → AllSound xs → Residues p v → values ≡ map (enter m) (first_four v)
      → inverses₀ ≡ inverses_with (form_times m) (form_inverse m) values → ys ≡ xs → after ≡ do_all_with (form_times m) ys values inverses₀
      → map (leave m) (first_four after) ≡ do_all p xs v
  run_in_forms xs ys v values inverses₀ after sound g ev ew same done =
      let forms : values ≡ map (form_of p) v = ev ∙ entered v g in
      ap (λ (l : List ℕ). map (leave m) (first_four l)) (done ∙ ap (λ (l : List Step). do_all_with (form_times m) l values inverses₀) same)
      ∙ arrive_in_forms xs v values inverses₀ sound g forms (ew ∙ ap (inverses_with (form_times m) (form_inverse m)) forms ∙ forms_inverted v g)

-- Whole exponents: a step and its opposite undo each other, and each register holds a to its exponent, since a power of a sum is
-- the product of the powers, for exponents of either sign, and what keeps sums keeps steps.
use mathlib.Core.Path.{◌≡◌, refl, sym, ◌∙◌, ap}
use mathlib.Core.Bool.{Bool, true, false, cond}
use mathlib.Core.List.{List, map}
use Prim.Native.Nat.{ℕ, zero, suc, ◌+◌, ◌-◌, ◌%◌, ◌^◌, ◌<◌}
use native.Mathlib.Nat.{sub-add_cancel}
use native.Mathlib.Omega.{arith}
use lib.Dec.{ltb}
use lib.IntN.{ℤ, pos, negsuc, neg_ℤ, ◌+ℤ◌, ◌-ℤ◌, sub_ℕ, +ℤ-neg_ℤ_cancel, -ℤ-+ℤ_cancel}
use lib.ListN.{length, take}
use borrow.Author.Tests.{ltb-true, ltb-false}
use Rattle.modular.specs.Primes.{Prime}
use Rattle.modular.specs.Residues.{Residue, times}
use Rattle.modular.specs.Inverses.{inverse}
use Rattle.modular.proofs.Laws.Residues.{times_comm, times_assoc, times_one}
use Rattle.modular.proofs.Laws.Group.{residue_inverse, inverse_times, inverse_inverse, inverse_one, inverse_product, mul_div}
use Rattle.modular.proofs.Laws.Powers.{times_pow, power_zero, power_one, residue_pow}
use Rattle.tape.specs.declared.Step.{Step}
use Rattle.tape.specs.Steps.{Sound, AllSound}
use Rattle.machine.specs.Machine.{inverse_step, do_all, undo_all, run, inverted, start}
use Rattle.machine.specs.Exponents.{shift, shift_all, start_exponents, exponents_at, power_of}
use Rattle.machine.proofs.Laws.Actions.{act, act_all, Undoes, quotient, length_act, length_act_all, act_inverse, act_back, map_act_all, shift_act, shift_all_act, do_all_act}
use Rattle.machine.proofs.Laws.Steps.{residues_start}
use Rattle.machine.proofs.Laws.Runs.{sound_take, run_form}

-- ---- steps on exponents

pub length_shift : (x : Step) (z : List ℤ) → length (shift x z) ≡ length z
length_shift x z = ap length (shift_act x z) ∙ length_act (pos 0) ◌+ℤ◌ ◌-ℤ◌ x z

pub length_shift_all : (xs : List Step) (z : List ℤ) → length (shift_all xs z) ≡ length z
length_shift_all xs z = ap length (shift_all_act xs z) ∙ length_act_all (pos 0) ◌+ℤ◌ ◌-ℤ◌ xs z

-- a step and its opposite undo each other, and so do steps and the steps taken back
undoes : (x y : ℤ) → Undoes (pos 0) ◌+ℤ◌ ◌-ℤ◌ x y
undoes x y = (+ℤ-neg_ℤ_cancel x y, -ℤ-+ℤ_cancel x y)

pub shift_inverse_step : (x : Step) (z : List ℤ) → Sound x → length z ≡ 4 → shift (inverse_step x) (shift x z) ≡ z
shift_inverse_step x z a n =
    shift_act (inverse_step x) (shift x z)
    ∙ ap (act (pos 0) ◌+ℤ◌ ◌-ℤ◌ (inverse_step x)) (shift_act x z)
    ∙ act_inverse (pos 0) ◌+ℤ◌ ◌-ℤ◌ x z a n (λ t s h k. undoes _ _)

pub shift_back : (xs : List Step) (z : List ℤ) → AllSound xs → length z ≡ 4 → shift_all (inverted xs) (shift_all xs z) ≡ z
shift_back xs z a n =
    shift_all_act (inverted xs) (shift_all xs z)
    ∙ ap (act_all (pos 0) ◌+ℤ◌ ◌-ℤ◌ (inverted xs)) (shift_all_act xs z)
    ∙ act_back (pos 0) ◌+ℤ◌ ◌-ℤ◌ undoes xs z a n

-- ---- powers

module _ (p : ℕ) (pr : Prime p) (a : ℕ) (ra : Residue p a) where
  power : ℕ → ℕ
  power n = a ^ n % p

  power_residue : (n : ℕ) → Residue p (power n)
  unfolding power
  power_residue n = residue_pow p pr a n ra

  power_times : (m n : ℕ) → times p (power m) (power n) ≡ power (m + n)
  unfolding power
  power_times m n = times_pow p pr a m n

  -- of a difference of natural numbers
  power_difference : (m n : ℕ) → power_of p a (sub_ℕ m n) ≡ times p (power m) (inverse p (power n))
  unfolding power_of power
  power_difference m n = go (ltb m n) refl
    where
      go : (b : Bool) → ltb m n ≡ b → power_of p a (cond b (negsuc (n - suc m)) (pos (m - n))) ≡ times p (power m) (inverse p (power n))
      go true e =
          let h : m < n = ltb-true m n e in
          let d : ℕ = suc (n - suc m) in
          let s : d + m ≡ n = omega arith in
          sym
          (ap (λ (x : ℕ). times p (power m) (inverse p x)) (ap power (sym s) ∙ sym (power_times d m))
          ∙ ap (times p (power m)) (inverse_product p pr (power d) (power m) (power_residue d) (power_residue m))
          ∙ times_comm p (power m) (times p (inverse p (power d)) (inverse p (power m)))
          ∙ times_assoc p (inverse p (power d)) (inverse p (power m)) (power m)
          ∙ ap (times p (inverse p (power d))) (inverse_times p pr (power m) (power_residue m))
          ∙ times_one p (inverse p (power d)) (residue_inverse p pr (power d) (power_residue d)))
      go false e =
          sym
          (ap (λ (x : ℕ). times p x (inverse p (power n))) (ap power (sym (sub-add_cancel (ltb-false m n e))) ∙ sym (power_times (m - n) n))
          ∙ mul_div p pr (power (m - n)) (power n) (power_residue (m - n)) (power_residue n))

  pub power_of_residue : (x : ℤ) → Residue p (power_of p a x)
  unfolding power_of power
  power_of_residue (pos n) = power_residue n
  power_of_residue (negsuc n) = residue_inverse p pr (power (suc n)) (power_residue (suc n))

  -- of 0 and of 1
  pub power_of_zero : power_of p a (pos 0) ≡ 1
  unfolding power_of
  power_of_zero = power_zero p pr a

  pub power_of_one : power_of p a (pos 1) ≡ a
  unfolding power_of
  power_of_one = power_one p pr a ra

  -- of a sum, of the opposite and of a difference
  pub power_of_sum : (x y : ℤ) → power_of p a (x +ℤ y) ≡ times p (power_of p a x) (power_of p a y)
  unfolding power_of power
  power_of_sum (pos m) (pos n) = sym (power_times m n)
  power_of_sum (pos m) (negsuc n) = power_difference m (suc n)
  power_of_sum (negsuc m) (pos n) = power_difference n (suc m) ∙ times_comm p (power n) (inverse p (power (suc m)))
  power_of_sum (negsuc m) (negsuc n) =
      ap (inverse p) (ap power (omega arith) ∙ sym (power_times (suc m) (suc n)))
      ∙ inverse_product p pr (power (suc m)) (power (suc n)) (power_residue (suc m)) (power_residue (suc n))

  power_of_opposite : (x : ℤ) → power_of p a (neg_ℤ x) ≡ inverse p (power_of p a x)
  unfolding power_of power
  power_of_opposite (pos zero) = power_zero p pr a ∙ sym (ap (inverse p) (power_zero p pr a) ∙ inverse_one p pr)
  power_of_opposite (pos (suc n)) = refl
  power_of_opposite (negsuc n) = sym (inverse_inverse p pr (power (suc n)) (power_residue (suc n)))

  pub power_of_less : (x y : ℤ) → power_of p a (x -ℤ y) ≡ times p (power_of p a x) (inverse p (power_of p a y))
  power_of_less x y = power_of_sum x (neg_ℤ y) ∙ ap (times p (power_of p a x)) (power_of_opposite y)

-- ---- each register holds a to its exponent

module _ (p : ℕ) (pr : Prime p) (a : ℕ) (ra : Residue p a) where
  abbrev held : List ℤ → List ℕ
  held z = map (power_of p a) z

  pub do_all_held : (xs : List Step) (z : List ℤ) → AllSound xs → length z ≡ 4 → do_all p xs (held z) ≡ held (shift_all xs z)
  do_all_held xs z s n =
      do_all_act p xs (held z)
      ∙ sym (map_act_all (pos 0) ◌+ℤ◌ ◌-ℤ◌ 0 (times p) (quotient p) (power_of p a) (power_of_sum p pr a ra) (power_of_less p pr a ra) xs z s n)
      ∙ ap held (sym (shift_all_act xs z))

  start_held : start a ≡ held start_exponents
  start_held = sym (simp (power_of_zero p pr a ra, power_of_one p pr a ra))

  -- after the first n steps from (1, a, 1, 1)
  pub registers_exponents : (xs : List Step) (n : ℕ) → AllSound xs → do_all p (take n xs) (start a) ≡ map (power_of p a) (exponents_at xs n)
  registers_exponents xs n s = ap (do_all p (take n xs)) start_held ∙ do_all_held (take n xs) start_exponents (sound_take n xs s) refl

  -- and so by a run to position n
  pub run_exponents : (xs : List Step) (n : ℕ) → AllSound xs → run p xs 0 n (start a) ≡ map (power_of p a) (exponents_at xs n)
  unfolding undo_all
  run_exponents xs n s = run_form p pr xs s 0 n (start a) (residues_start p pr a ra) ∙ registers_exponents xs n s

-- Exponents modulo an order of a: where a^r = 1, a register holds a to the residue of its exponent, which for a negative one is the
-- inverse, since the two exponents sum to a multiple of r.
use mathlib.Core.Path.{◌≡◌, refl, sym, ◌∙◌, ap, ap₂}
use mathlib.Core.List.{List, [], ◌∷◌, map}
use Prim.Native.Nat.{ℕ, suc, ◌+◌, ◌*◌, ◌-◌, ◌/◌, ◌%◌, ◌^◌, ◌<◌}
use native.Mathlib.Nat.{add-mul-mod_self_right, mod-add-div', mod-lt}
use native.Mathlib.Omega.{arith}
use lib.IntN.{ℤ, pos, negsuc}
use lib.ListN.{length}
use lib.Seq.{take-length}
use Rattle.modular.specs.Primes.{Prime}
use Rattle.modular.specs.Residues.{Residue}
use Rattle.modular.proofs.Laws.Group.{inverse_only}
use Rattle.modular.proofs.Laws.Powers.{pow_order, pow_congruent, power_zero, times_pow, residue_pow}
use Rattle.tape.specs.declared.Step.{Step}
use Rattle.tape.specs.Steps.{AllSound}
use Rattle.machine.specs.Machine.{do_all, start}
use Rattle.machine.specs.Exponents.{exponents_at, power_of, residue_of}
use Rattle.machine.proofs.Laws.Exponents.{registers_exponents}

module _ (p : ℕ) (pr : Prime p) (a : ℕ) (ra : Residue p a) (r : ℕ) (some : 0 < r) (order : a ^ r % p ≡ 1) where
  power_residue : (e : ℤ) → power_of p a e ≡ a ^ residue_of r e % p
  unfolding power_of residue_of
  power_residue (pos n) = sym (pow_order p a r n order)
  power_residue (negsuc n) =
      let m : ℕ = r - suc (n % r) in
      let whole : suc n + m ≡ 0 + suc (n / r) * r = omega (arith, mod-add-div' n r, mod-lt n some) in
      inverse_only p (a ^ suc n % p) (a ^ m % p) (residue_pow p pr a m ra)
      (times_pow p pr a (suc n) m
      ∙ pow_congruent p a r (suc n + m) 0 order (ap (λ (x : ℕ). x % r) whole ∙ add-mul-mod_self_right 0 (suc (n / r)) r)
      ∙ power_zero p pr a)

  powers_residues : (z : List ℤ) → map (power_of p a) z ≡ map (λ (n : ℕ). a ^ n % p) (map (residue_of r) z)
  powers_residues [] = refl
  powers_residues (e ∷ z) = ap₂ ◌∷◌ (power_residue e) (powers_residues z)

  -- after a list of steps from (1, a, 1, 1)
  pub registers_residues : (xs : List Step) → AllSound xs
      → do_all p xs (start a) ≡ map (λ (n : ℕ). a ^ n % p) (map (residue_of r) (exponents_at xs (length xs)))
  registers_residues xs sound =
      ap (λ (l : List Step). do_all p l (start a)) (sym (take-length xs))
      ∙ registers_exponents p pr a ra xs (length xs) sound
      ∙ powers_residues (exponents_at xs (length xs))

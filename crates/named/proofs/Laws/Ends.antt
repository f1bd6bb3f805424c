-- Exponents that end at (0, k, 0, 0) modulo r: a sequence that is congruent to the multiples of k at its last two terms is so at all
-- below them, so it comes from where those multiples come from. What ends there raises to the k-th power where a^r = 1, and is undone
-- to the K-th, since the k-th power of b^K is b.
use mathlib.Core.Path.{◌≡◌, sym, ap, ◌∙◌}
use mathlib.Core.Bool.{Bool, true, false}
use mathlib.Core.List.{List, [], ◌∷◌, map}
use Prim.Native.Nat.{ℕ, zero, suc, ◌+◌, ◌*◌, ◌%◌, ◌^◌, ◌≤◌, ◌<◌}
use native.Mathlib.Nat.{mul_comm}
use native.Mathlib.Decide.{dec_le}
use native.Mathlib.Omega.{arith}
use lib.IntN.{ℤ, pos, ◌-ℤ◌, +ℤ-neg_ℤ_cancel}
use lib.ListN.{length}
use Rattle.modular.specs.Primes.{Prime}
use Rattle.modular.specs.Residues.{Residue}
use Rattle.modular.proofs.Laws.Residues.{unscaled}
use Rattle.modular.proofs.Laws.Powers.{pow_pow, pow_congruent, power_zero, power_one, order_power, residue_pow}
use Rattle.fibonacci.specs.Forms.{fibsum}
use Rattle.tape.specs.declared.Step.{Step}
use Rattle.tape.specs.Steps.{AllSound}
use Rattle.machine.specs.Machine.{undo_all, start}
use Rattle.machine.specs.Exponents.{start_exponents, exponents_at, residue_of}
use Rattle.machine.proofs.Laws.Steps.{residues_start, undo_do}
use Rattle.machine.proofs.Laws.Ranges.{LeadsTo, goes_end}
use Rattle.machine.proofs.Laws.Orders.{registers_residues}
use Rattle.machine.proofs.Laws.Congruences.{Congruent, congruent_less, residue_is}
use Rattle.named.specs.Generators.{Raises, UndoneRaises}
use Rattle.named.proofs.Laws.Sequences.{Adds, minus_selected, multiple, multiple_zero, multiple_one, multiple_next, minus_selected_sum, Reaching, came_from}

-- (0, k, 0, 0) modulo r
abbrev pub EndsAt : ℕ → ℕ → List ℤ → Type 0
EndsAt r k z = map (residue_of r) z ≡ 0 ∷ k ∷ 0 ∷ 0 ∷ []

ends_at : (r k : ℕ) (c d e f : ℤ) → k < r → Congruent r c (pos 0) → Congruent r d (pos k) → Congruent r e (pos 0) → Congruent r f (pos 0)
    → EndsAt r k (c ∷ d ∷ e ∷ f ∷ [])
ends_at r k c d e f h pc pd pe pf =
    let some : 0 < r = omega arith in
    rw (residue_is r some c 0 some pc, residue_is r some d k h pd, residue_is r some e 0 some pe, residue_is r some f 0 some pf)

-- ---- sequences that are congruent at two terms

module _ (r : ℕ) (u v : ℕ → ℤ) (p : Adds u) (q : Adds v) where
  -- a term from the two after it
  term_below : (w : ℕ → ℤ) → Adds w → (i : ℕ) → w (suc (suc i)) -ℤ w (suc i) ≡ w i
  term_below w next i = ap (λ (x : ℤ). x -ℤ w (suc i)) (sym (next i)) ∙ +ℤ-neg_ℤ_cancel (w i) (w (suc i))

  below_congruent : (i : ℕ) → Congruent r (u (suc i)) (v (suc i)) → Congruent r (u (suc (suc i))) (v (suc (suc i))) → Congruent r (u i) (v i)
  below_congruent i a b =
      rw (← (term_below u p i), ← (term_below v q i))
      (congruent_less r (u (suc (suc i))) (v (suc (suc i))) (u (suc i)) (v (suc i)) b a)

  terms_congruent : (m : ℕ) → Congruent r (u m) (v m) → Congruent r (u (suc m)) (v (suc m)) → (i : ℕ) → i ≤ suc m → Congruent r (u i) (v i)
  terms_congruent zero a b zero h = a
  terms_congruent zero a b (suc zero) h = b
  terms_congruent zero a b (suc (suc i)) h = absurd (omega arith)
  terms_congruent (suc m) a b i h = elim (dec_le i (suc m)) [
    | yes k ↦ terms_congruent m (below_congruent m a b) a i k
    | no k ↦ let e : i ≡ suc (suc m) = omega arith in rw e b
  ]

before_congruent : (r n : ℕ) (u v : ℕ → ℤ) → ((i : ℕ) → i ≤ suc n → Congruent r (u i) (v i)) → (i : ℕ) (bs : List Bool) (e f : ℤ)
    → i + length bs ≤ suc n → Congruent r e f → Congruent r (minus_selected u i bs e) (minus_selected v i bs f)
before_congruent r n u v c i [] e f h a = a
before_congruent r n u v c i (true ∷ bs) e f h a =
    congruent_less r (minus_selected u (suc i) bs e) (minus_selected v (suc i) bs f) (u (suc i)) (v (suc i))
    (before_congruent r n u v c (suc i) bs e f (omega arith) a) (c (suc i) (omega arith))
before_congruent r n u v c i (false ∷ bs) e f h a = before_congruent r n u v c (suc i) bs e f (omega arith) a

-- ---- where a sequence comes from

pub came_ends : (r k : ℕ) {b n : ℕ} {s t : ℤ} (q : Reaching b n s t) (ss ts : List Bool) (e f : ℤ) → k < r
    → Congruent r s (multiple k n) → Congruent r t (multiple k (suc n)) → length ss ≤ n → length ts ≤ n
    → Congruent r e (pos (k * fibsum ss)) → Congruent r f (pos (k * fibsum ts)) → EndsAt r k (came_from q ss ts e f)
came_ends r k {n = n} q ss ts e f h cs ct ls lt ce cf =
    let u : ℕ → ℤ = q.term in
    let terms : (i : ℕ) → i ≤ suc n → Congruent r (u i) (multiple k i) =
    terms_congruent r u (multiple k) q.sequence.next (multiple_next k) n (rw q.last cs) (rw q.past ct) in
    let none : (bs : List Bool) (x : ℤ) → length bs ≤ n → Congruent r x (pos (k * fibsum bs)) → Congruent r (minus_selected u 1 bs x) (pos 0) =
    λ bs x l c. rw (minus_selected_sum k 1 bs) at (before_congruent r n u (multiple k) terms 1 bs x (pos (k * fibsum bs)) (omega arith) c) in
    ends_at r k (u 0) (u 1) (minus_selected u 1 ss e) (minus_selected u 1 ts f) h
    (rw (multiple_zero k) at (terms 0 (omega arith))) (rw (multiple_one k) at (terms 1 (omega arith)))
    (none ss e ls ce) (none ts f lt cf)

-- where a program ends that goes there
pub end_residues : (r k : ℕ) {c : ℕ} {xs : List Step} {z : List ℤ} → LeadsTo c xs start_exponents z → EndsAt r k z → EndsAt r k (exponents_at xs (length xs))
end_residues r k goes e = ap (map (residue_of r)) (goes_end goes) ∙ e

-- ---- the power

pub one_residue : (r k K : ℕ) → k * K % r ≡ 1 → k * K % r ≡ 1 % r
one_residue r k K inv = unscaled r k K K 1 inv (ap (λ (x : ℕ). x % r) (omega arith))

module _ (p : ℕ) (pr : Prime p) (r k : ℕ) (xs : List Step) (sound : AllSound xs) where
  pub ends_raises : 0 < r → EndsAt r k (exponents_at xs (length xs)) → Raises p r k xs
  ends_raises some ends a ra order =
      registers_residues p pr a ra r some order xs sound ∙ ap (map (λ (n : ℕ). a ^ n % p)) ends ∙ simp (power_zero p pr a)

  pub raises_undone : (K : ℕ) → k * K % r ≡ 1 → Raises p r k xs → UndoneRaises p r K xs
  raises_undone K inv raises b rb order =
      let a : ℕ = b ^ K % p in
      let ra : Residue p a = residue_pow p pr b K rb in
      let e : a ^ k % p ≡ b =
      pow_pow p b K k
      ∙ ap (λ (n : ℕ). b ^ n % p) (mul_comm K k)
      ∙ pow_congruent p b r (k * K) 1 order (one_residue r k K inv)
      ∙ power_one p pr b rb in
      ap (λ (x : ℕ). undo_all p xs (start x)) (sym e)
      ∙ ap (undo_all p xs) (sym (raises a ra (order_power p pr b r K order)))
      ∙ undo_do p pr xs (start a) sound (residues_start p pr a ra)

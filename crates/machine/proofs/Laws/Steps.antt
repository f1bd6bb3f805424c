-- On residues modulo a prime a step and its opposite undo each other, and residues stay residues: the residues are a group under
-- the product.
use mathlib.Core.Path.{◌≡◌, refl, sym, ◌∙◌, ap}
use mathlib.Core.List.{List, [], ◌∷◌, ◌++◌, append-nil, append_assoc}
use Prim.Native.Nat.{ℕ, zero, suc, ◌<◌}
use native.Mathlib.Omega.{arith}
use native.Mathlib.Decide.{ℕ_discrete}
use lib.ListN.{length, set, length-append, length-set}
use lib.Seq.{get_or-set_same, get_or-set_other}
use Rattle.modular.specs.Primes.{Prime}
use Rattle.modular.specs.Residues.{Residue, times}
use Rattle.modular.proofs.Laws.Group.{residue_one, residue_times, residue_inverse, mul_div, div_mul}
use Rattle.tape.specs.declared.Step.{Step}
use Rattle.tape.specs.declared.Step.TheVariants.{Mul, Div, Swp}
use Rattle.tape.specs.Steps.{Sound, AllSound}
use Rattle.machine.specs.Machine.{reg, apply, inverse_step, do_all, undo_all, inverted, Residues, start}
use Rattle.machine.proofs.Laws.Actions.{act, quotient, act_inverse, apply_act}

-- ---- steps and their opposites

pub inverse_step_twice : (x : Step) → inverse_step (inverse_step x) ≡ x
unfolding inverse_step
inverse_step_twice (Mul t s) = refl
inverse_step_twice (Div t s) = refl
inverse_step_twice (Swp t s) = refl

pub sound_inverse_step : (x : Step) → Sound x → Sound (inverse_step x)
unfolding inverse_step
sound_inverse_step (Mul t s) a = a
sound_inverse_step (Div t s) a = a
sound_inverse_step (Swp t s) a = a

pub sound_append : (xs ys : List Step) → AllSound xs → AllSound ys → AllSound (xs ++ ys)
sound_append [] ys a b = b
sound_append (x ∷ xs) ys a b = (a.0, sound_append xs ys a.1 b)

pub sound_append_left : (xs ys : List Step) → AllSound (xs ++ ys) → AllSound xs
sound_append_left [] ys a = tt
sound_append_left (x ∷ xs) ys a = (a.0, sound_append_left xs ys a.1)

pub sound_append_right : (xs ys : List Step) → AllSound (xs ++ ys) → AllSound ys
sound_append_right [] ys a = a
sound_append_right (x ∷ xs) ys a = sound_append_right xs ys a.1

-- ---- a list taken back

pub sound_inverted : (xs : List Step) → AllSound xs → AllSound (inverted xs)
unfolding inverted
sound_inverted [] a = tt
sound_inverted (x ∷ xs) a = sound_append (inverted xs) (inverse_step x ∷ []) (sound_inverted xs a.1) (sound_inverse_step x a.0, tt)

pub inverted_append : (xs ys : List Step) → inverted (xs ++ ys) ≡ inverted ys ++ inverted xs
unfolding inverted
inverted_append [] ys = sym (append-nil (inverted ys))
inverted_append (x ∷ xs) ys =
    ap (λ (l : List Step). l ++ inverse_step x ∷ []) (inverted_append xs ys) ∙ append_assoc (inverted ys) (inverted xs) (inverse_step x ∷ [])

pub length_inverted : (xs : List Step) → length (inverted xs) ≡ length xs
unfolding inverted
length_inverted [] = refl
length_inverted (x ∷ xs) = length-append (inverted xs) (inverse_step x ∷ []) ∙ omega (arith, length_inverted xs)

-- ---- lists of steps in two parts

pub do_all_append : (p : ℕ) (xs ys : List Step) (v : List ℕ) → do_all p (xs ++ ys) v ≡ do_all p ys (do_all p xs v)
unfolding do_all
do_all_append p [] ys v = refl
do_all_append p (x ∷ xs) ys v = do_all_append p xs ys (apply p x v)

pub undo_all_append : (p : ℕ) (xs ys : List Step) (v : List ℕ) → undo_all p (xs ++ ys) v ≡ undo_all p xs (undo_all p ys v)
unfolding undo_all
undo_all_append p [] ys v = refl
undo_all_append p (x ∷ xs) ys v = ap (apply p (inverse_step x)) (undo_all_append p xs ys v)

-- undone is done with the opposite steps in reverse order
pub do_inverted : (p : ℕ) (xs : List Step) (v : List ℕ) → do_all p (inverted xs) v ≡ undo_all p xs v
unfolding inverted do_all undo_all
do_inverted p [] v = refl
do_inverted p (x ∷ xs) v = do_all_append p (inverted xs) (inverse_step x ∷ []) v ∙ ap (apply p (inverse_step x)) (do_inverted p xs v)

-- ---- four residues

pub residues_four : (p c d e f : ℕ) → Residue p c → Residue p d → Residue p e → Residue p f → Residues p (c ∷ d ∷ e ∷ f ∷ [])
residues_four p c d e f rc rd re rf = record { four = refl; residue = go }
  where
    go : (i : ℕ) → i < 4 → Residue p (reg (c ∷ d ∷ e ∷ f ∷ []) i)
    go zero h = rc
    go (suc zero) h = rd
    go (suc (suc zero)) h = re
    go (suc (suc (suc zero))) h = rf
    go (suc (suc (suc (suc i)))) h = absurd (omega arith)

module _ (p : ℕ) (pr : Prime p) where
  -- ---- residues stay residues

  residues_set : (v : List ℕ) (t n : ℕ) → Residues p v → Residue p n → Residues p (set v t n)
  residues_set v t n g r = record { four = length-set v t n ∙ g.four; residue = λ i h. go i h (ℕ_discrete i t) }
    where
      go : (i : ℕ) → i < 4 → Dec (i ≡ t) → Residue p (reg (set v t n) i)
      go i h (yes e) = let k : i < length v = rw g.four h in rw (← e, get_or-set_same v i n 0 k) r
      go i h (no ne) = rw (get_or-set_other v t i n 0 ne) (g.residue i h)

  pub residues_apply : (x : Step) (v : List ℕ) → Sound x → Residues p v → Residues p (apply p x v)
  unfolding apply
  residues_apply (Mul t s) v a g =
      residues_set v t _ g (residue_times p pr _ _ (g.residue t a.target_is_one) (g.residue s a.source_is_one))
  residues_apply (Div t s) v a g =
      residues_set v t _ g (residue_times p pr _ _ (g.residue t a.target_is_one) (residue_inverse p pr _ (g.residue s a.source_is_one)))
  residues_apply (Swp t s) v a g =
      residues_set (set v t (reg v s)) s _ (residues_set v t _ g (g.residue s a.0.source_is_one)) (g.residue t a.0.target_is_one)

  pub residues_do_all : (xs : List Step) (v : List ℕ) → AllSound xs → Residues p v → Residues p (do_all p xs v)
  unfolding do_all
  residues_do_all [] v a g = g
  residues_do_all (x ∷ xs) v a g = residues_do_all xs (apply p x v) a.1 (residues_apply x v a.0 g)

  pub residues_undo_all : (xs : List Step) (v : List ℕ) → AllSound xs → Residues p v → Residues p (undo_all p xs v)
  unfolding undo_all
  residues_undo_all [] v a g = g
  residues_undo_all (x ∷ xs) v a g = residues_apply (inverse_step x) (undo_all p xs v) (sound_inverse_step x a.0) (residues_undo_all xs v a.1 g)

  pub residues_start : (a : ℕ) → Residue p a → Residues p (start a)
  residues_start a ra = let one = residue_one p pr in residues_four p 1 a 1 1 one ra one one

  -- ---- doing and undoing

  pub undo_apply : (x : Step) (v : List ℕ) → Sound x → Residues p v → apply p (inverse_step x) (apply p x v) ≡ v
  undo_apply x v a g =
      apply_act p (inverse_step x) (apply p x v)
      ∙ ap (act 0 (times p) (quotient p) (inverse_step x)) (apply_act p x v)
      ∙ act_inverse 0 (times p) (quotient p) x v a g.four
      (λ t s h k. (mul_div p pr _ _ (g.residue t h) (g.residue s k), div_mul p pr _ _ (g.residue t h) (g.residue s k)))

  pub apply_undo : (x : Step) (v : List ℕ) → Sound x → Residues p v → apply p x (apply p (inverse_step x) v) ≡ v
  apply_undo x v a g =
      ap (λ (y : Step). apply p y (apply p (inverse_step x) v)) (sym (inverse_step_twice x)) ∙ undo_apply (inverse_step x) v (sound_inverse_step x a) g

  pub undo_do : (xs : List Step) (v : List ℕ) → AllSound xs → Residues p v → undo_all p xs (do_all p xs v) ≡ v
  unfolding undo_all do_all
  undo_do [] v a g = refl
  undo_do (x ∷ xs) v a g =
      ap (apply p (inverse_step x)) (undo_do xs (apply p x v) a.1 (residues_apply x v a.0 g)) ∙ undo_apply x v a.0 g

  pub do_undo : (xs : List Step) (v : List ℕ) → AllSound xs → Residues p v → do_all p xs (undo_all p xs v) ≡ v
  unfolding undo_all do_all
  do_undo [] v a g = refl
  do_undo (x ∷ xs) v a g =
      ap (do_all p xs) (apply_undo x (undo_all p xs v) a.0 (residues_undo_all xs v a.1 g)) ∙ do_undo xs v a.1 g

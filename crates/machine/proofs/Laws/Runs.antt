-- A run in one form for both directions, on residues: back to position 0 and out to the goal. So from i to j and then to k is
-- from i to k, with no cases.
use mathlib.Core.Path.{◌≡◌, refl, sym, ◌∙◌, ap}
use mathlib.Core.Bool.{Bool, true, false, cond}
use mathlib.Core.List.{List, ◌++◌}
use Prim.Native.Nat.{ℕ, ◌≤◌}
use native.Mathlib.Omega.{arith}
use lib.Dec.{leb}
use lib.ListN.{length, take, drop, take-append-drop}
use lib.Seq.{slice, take-take, take-length}
use borrow.Author.Tests.{leb-true, leb-false}
use Rattle.modular.specs.Primes.{Prime}
use Rattle.tape.specs.declared.Step.{Step}
use Rattle.tape.specs.Steps.{AllSound}
use Rattle.machine.specs.Machine.{do_all, undo_all, run, Residues}
use Rattle.machine.proofs.Laws.Steps.{sound_append_left, sound_append_right, do_all_append, undo_all_append, residues_do_all, residues_undo_all, undo_do, do_undo}

pub sound_take : (n : ℕ) (xs : List Step) → AllSound xs → AllSound (take n xs)
sound_take n xs a = sound_append_left (take n xs) (drop n xs) (rw take-append-drop a)

-- the first j steps are the first i and those between
take_slice : (i j : ℕ) (xs : List Step) → i ≤ j → take j xs ≡ take i xs ++ slice i j xs
take_slice i j xs h =
    sym (take-append-drop i (take j xs)) ∙ ap (λ (l : List Step). l ++ slice i j xs) (take-take i j xs h)

-- ---- runs

module _ (p : ℕ) (pr : Prime p) (xs : List Step) (a : AllSound xs) where
  pub run_form : (i j : ℕ) (v : List ℕ) → Residues p v → run p xs i j v ≡ do_all p (take j xs) (undo_all p (take i xs) v)
  unfolding run
  run_form i j v g = go (leb i j) refl
    where
      go : (b : Bool) → leb i j ≡ b
          → cond b (do_all p (slice i j xs) v) (undo_all p (slice j i xs) v) ≡ do_all p (take j xs) (undo_all p (take i xs) v)
      go true e =
          sym
          (ap (λ (l : List Step). do_all p l (undo_all p (take i xs) v)) (take_slice i j xs (leb-true i j e))
          ∙ do_all_append p (take i xs) (slice i j xs) (undo_all p (take i xs) v)
          ∙ ap (do_all p (slice i j xs)) (do_undo p pr (take i xs) v (sound_take i xs a) g))
      go false e =
          let h : j ≤ i = omega (arith, leb-false i j e) in
          let s : AllSound (slice j i xs) = sound_append_right (take j xs) (slice j i xs) (rw (← (take_slice j i xs h)) (sound_take i xs a)) in
          sym
          (ap (λ (l : List Step). do_all p (take j xs) (undo_all p l v)) (take_slice j i xs h)
          ∙ ap (do_all p (take j xs)) (undo_all_append p (take j xs) (slice j i xs) v)
          ∙ do_undo p pr (take j xs) (undo_all p (slice j i xs) v) (sound_take j xs a) (residues_undo_all p pr (slice j i xs) v s g))

  pub run_residues : (i j : ℕ) (v : List ℕ) → Residues p v → Residues p (run p xs i j v)
  run_residues i j v g =
      rw (run_form i j v g)
      (residues_do_all p pr (take j xs) _ (sound_take j xs a) (residues_undo_all p pr (take i xs) v (sound_take i xs a) g))

  pub run_compose : (i j k : ℕ) (v : List ℕ) → Residues p v → run p xs j k (run p xs i j v) ≡ run p xs i k v
  run_compose i j k v g =
      let w : List ℕ = undo_all p (take i xs) v in
      let gw : Residues p w = residues_undo_all p pr (take i xs) v (sound_take i xs a) g in
      run_form j k (run p xs i j v) (run_residues i j v g)
      ∙ ap (λ (u : List ℕ). do_all p (take k xs) (undo_all p (take j xs) u)) (run_form i j v g)
      ∙ ap (do_all p (take k xs)) (undo_do p pr (take j xs) w (sound_take j xs a) gw)
      ∙ sym (run_form i k v g)

  -- end to end
  pub run_forward : (v : List ℕ) → Residues p v → run p xs 0 (length xs) v ≡ do_all p xs v
  unfolding undo_all
  run_forward v g = run_form 0 (length xs) v g ∙ ap (λ (l : List Step). do_all p l v) (take-length xs)

  pub run_backward : (v : List ℕ) → Residues p v → run p xs (length xs) 0 v ≡ undo_all p xs v
  unfolding do_all
  run_backward v g = run_form (length xs) 0 v g ∙ ap (λ (l : List Step). undo_all p l v) (take-length xs)

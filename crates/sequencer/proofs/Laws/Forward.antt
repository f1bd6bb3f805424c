-- Load and run forward: what load refuses is refused, and where load answers, run passes each of its rules. A named program's steps, done
-- from first to last, raise the base to the power k.
use mathlib.Core.Path.{◌≡◌, sym, ap, ◌∙◌}
use mathlib.Core.Bool.{true, false}
use mathlib.Core.List.{List}
use Prim.Native.Nat.{ℕ, ◌%◌, ◌^◌}
use native.Mathlib.Omega.{arith}
use borrow.Author.Tests.{le-ltb, eqb-false, not-true}
use Rattle.refusal.specs.Outcomes.{refused, answered, passes, answers}
use Rattle.modular.specs.Primes.{Prime}
use Rattle.modular.specs.Residues.{Residue}
use Rattle.modular.proofs.Laws.Group.{residue_one}
use Rattle.tape.specs.Layout.{header_of, steps_of}
use Rattle.tape.proofs.Laws.Layout.{steps_count}
use Rattle.machine.specs.Machine.{do_all, run, start}
use Rattle.machine.proofs.Laws.Steps.{residues_start}
use Rattle.machine.proofs.Laws.Runs.{run_forward}
use Rattle.program.specs.Services.{is_named}
use Rattle.program.proofs.Laws.Checking.{accepted_named_lem}
use Rattle.program.proofs.Laws.Accepting.{accepted_program}
use Rattle.sequencer.specs.Records.{Record}
use Rattle.sequencer.specs.Services.{bad_registers, start_record, record_rules, goal_rules, load_outcome, run_outcome, forward_outcome}
use Rattle.sequencer.proofs.Laws.Cases.{modulus_prime, registers_others, registers_last, run_rules_lem}
use Rattle.sequencer.proofs.Laws.Answers.{residue_good, steps_sound, load_answered}
use Rattle.sequencer.proofs.Laws.Orders.{load_order}

-- ---- the two outcomes of load

module _ (tape : List ℕ) (a : ℕ) where
  pub forward_refused : {n : ℕ} → load_outcome tape a ≡ refused n → forward_outcome tape a ≡ refused n
  unfolding forward_outcome
  forward_refused e = rw e

  pub forward_loaded : {s : Record} → load_outcome tape a ≡ answered s → forward_outcome tape a ≡ run_outcome tape s (header_of tape).steps
  unfolding forward_outcome
  forward_loaded e = rw e

-- ---- run is not refused then

start_residues : (p : ℕ) → Prime p → (a : ℕ) → Residue p a → bad_registers p (start a) ≡ false
start_residues p pr a r =
    let one = residue_good p 1 (residue_one p pr) in
    registers_others p 1 _ one ∙ registers_others p a _ (residue_good p a r) ∙ registers_others p 1 _ one ∙ registers_last p 1 ∙ one

-- the record at a program's end
abbrev pub end_record : List ℕ → List ℕ → Record
end_record tape v = record { registers = v; position = (header_of tape).steps }

module _ (tape : List ℕ) (a : ℕ) {s : Record} (e : load_outcome tape a ≡ answered s) where
  pub forward_answered : forward_outcome tape a ≡ answered (end_record tape (run (header_of tape).modulus (steps_of tape) 0 (header_of tape).steps (start a)))
  unfolding record_rules goal_rules
  forward_answered =
      let load = load_answered tape a s e in
      let pr = modulus_prime tape (header_of tape) load.accepted in
      forward_loaded tape a e
      ∙ ap (λ (t : Record). run_outcome tape t (header_of tape).steps) load.record_is
      ∙ run_rules_lem tape (header_of tape) load.accepted (start_record a) (header_of tape).steps
      ∙ passes _ _ _ (start_residues _ pr a load.base)
      ∙ passes _ _ _ (le-ltb (header_of tape).steps 0 (omega arith))
      ∙ passes _ _ _ (le-ltb (header_of tape).steps (header_of tape).steps (omega arith))
      ∙ answers _

  -- all its steps are done
  pub forward_done : forward_outcome tape a ≡ answered (end_record tape (do_all (header_of tape).modulus (steps_of tape) (start a)))
  forward_done =
      let h = header_of tape in
      let load = load_answered tape a s e in
      let pr = modulus_prime tape h load.accepted in
      forward_answered
      ∙ ap (λ (v : List ℕ). answered (end_record tape v))
      (ap (λ (n : ℕ). run h.modulus (steps_of tape) 0 n (start a)) (sym (steps_count tape))
      ∙ run_forward h.modulus pr (steps_of tape) (steps_sound tape) (start a) (residues_start h.modulus pr a load.base))

  -- of a named program, (1, a^k, 1, 1)
  pub forward_power : is_named (header_of tape) ≡ true
      → forward_outcome tape a ≡ answered (end_record tape (start (a ^ (header_of tape).exponent % (header_of tape).modulus)))
  forward_power is =
      let h = header_of tape in
      let load = load_answered tape a s e in
      let some = eqb-false h.variant 0 (not-true _ is) in
      forward_done
      ∙ ap (λ (v : List ℕ). answered (end_record tape v))
      ((accepted_program tape (accepted_named_lem h tape load.accepted some)).raises h.modulus (modulus_prime tape h load.accepted) a load.base (load_order tape a e is).one)

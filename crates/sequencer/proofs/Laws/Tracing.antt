-- What a trace's answers say. An accepted named program's exponents never leave the range and end at (0, k, 0, 0) modulo r; and the
-- exponents of any accepted program are those of the registers.
use mathlib.Core.Path.{◌≡◌, sym, ap, ◌∙◌}
use mathlib.Core.Bool.{true, not}
use mathlib.Core.List.{List, [], ◌∷◌, map}
use Prim.Native.Nat.{ℕ, ◌≤◌}
use native.Mathlib.Omega.{arith}
use lib.Dec.{ltb}
use lib.ListN.{take}
use borrow.Author.Tests.{eqb-false, not-true, ltb-false, le-ltb}
use Rattle.refusal.specs.Outcomes.{answered, gives, passes, answers}
use Rattle.refusal.proofs.Laws.Rules.{still_answered}
use Rattle.refusal.proofs.Laws.Tests.{by_test}
use Rattle.tape.specs.Layout.{header_of, steps_of}
use Rattle.tape.proofs.Laws.Layout.{steps_count}
use Rattle.machine.specs.Exponents.{start_exponents, exponents_at, stays_in_range, residue_of}
use Rattle.machine.proofs.Laws.Ranges.{stays_take}
use Rattle.machine.proofs.Laws.Exponents.{run_exponents}
use Rattle.named.proofs.Laws.Parameters.{order_small}
use Rattle.program.specs.Services.{is_named, check_rules, check_outcome, accept_outcome}
use Rattle.program.proofs.Laws.Checking.{AcceptedNamed, accepted_named_lem}
use Rattle.program.proofs.Laws.Accepting.{accepted_program}
use Rattle.program.proofs.Laws.Door.{answered_tape, answered_with}
use Rattle.sequencer.specs.Services.{trace_rules, trace_outcome}
use Rattle.sequencer.specs.Tracing.{NeverOutside, MeansPowers}
use Rattle.sequencer.proofs.Laws.Answers.{steps_sound}
use Rattle.sequencer.proofs.Laws.Cases.{modulus_prime, trace_rules_lem}

-- an answer's exponents are those of the definition, and they are those of the registers
pub trace_powers : (tape : List ℕ) (position : ℕ) → MeansPowers tape position (trace_outcome tape position)
unfolding trace_outcome
trace_powers tape position z e a ra =
    let prime = modulus_prime tape (header_of tape) (answered_tape tape _ (exponents_at (steps_of tape) position) e) in
    run_exponents _ prime a ra (steps_of tape) position (steps_sound tape) ∙ ap (map _) (sym (answered_with tape _ _ e))

-- ---- an accepted named program

module _ (tape : List ℕ) (named : is_named (header_of tape) ≡ true) (check : check_outcome tape ≡ answered 0) where
  is_named_lem : AcceptedNamed tape
  is_named_lem = accepted_named_lem 0 tape check (eqb-false _ 0 (not-true _ named))

  accept : accept_outcome tape ≡ answered (header_of tape)
  accept = still_answered 0 (header_of tape) (check_rules tape) check

  stays : (position : ℕ) → stays_in_range (take position (steps_of tape)) start_exponents ≡ true
  stays position =
      stays_take position (steps_of tape) start_exponents ((accepted_program tape is_named_lem).stays (order_small _ _ is_named_lem.modulus is_named_lem.order))

  -- its trace is answered at every position
  pub trace_answered : (position : ℕ) → position ≤ (header_of tape).steps → trace_outcome tape position ≡ answered (exponents_at (steps_of tape) position)
  unfolding trace_rules
  trace_answered position h =
      trace_rules_lem tape (header_of tape) accept position ∙ passes _ _ _ (le-ltb _ position h) ∙ passes _ _ _ (ap not (stays position)) ∙ answers _

  -- and at the last the exponents are (0, k, 0, 0) modulo r
  pub trace_ends : map (residue_of (header_of tape).order) (exponents_at (steps_of tape) (header_of tape).steps) ≡ 0 ∷ (header_of tape).exponent ∷ 0 ∷ 0 ∷ []
  trace_ends =
      ap (λ (i : ℕ). map (residue_of (header_of tape).order) (exponents_at (steps_of tape) i)) (sym (steps_count tape)) ∙ (accepted_program tape is_named_lem).ends

-- so it is refused with 10 or not at all
pub trace_inside : (tape : List ℕ) (position : ℕ) → NeverOutside tape (trace_outcome tape position)
unfolding trace_rules
trace_inside tape position named check out =
    by_test (ltb (header_of tape).steps position)
    (λ past.
    let e = trace_rules_lem tape (header_of tape) (accept tape named check) position ∙ gives _ _ _ past in
    let z : ◌≡◌ {A = ℕ} 10 12 = cc (e, out) in
    absurd (omega arith))
    (λ inside.
    let e = trace_answered tape named check position (ltb-false _ _ inside) in
    let z : ◌≡◌ {A = ℕ} 0 1 = cc (e, out) in
    absurd (omega arith))

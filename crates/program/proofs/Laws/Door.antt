-- A service on a tape: a tape that isn't accepted is refused as check refuses it, and on an accepted one the service's own list is
-- left; so an answer says that the tape is accepted and that this list refuses nothing.
use mathlib.Core.Path.{◌≡◌, sym, ap, ◌∙◌}
use mathlib.Core.List.{List}
use Prim.Native.Nat.{ℕ}
use Rattle.refusal.specs.Outcomes.{Rule, refused, answered, outcome}
use Rattle.refusal.proofs.Laws.Rules.{refused_before, passed_before, answered_before, still_answered, answer_is}
use Rattle.tape.specs.declared.Header.{Header}
use Rattle.tape.specs.Layout.{header_of}
use Rattle.program.specs.Services.{check_rules, accept_outcome}
use Rattle.program.specs.Door.{on_tape}
use Rattle.program.proofs.Laws.Checking.{header_is}

module _ {A : Type 0} (tape : List ℕ) where
  pub tape_refused : (own : List Rule) (x : A) {n : ℕ} → accept_outcome tape ≡ refused n → on_tape tape own x ≡ refused n
  unfolding on_tape
  tape_refused own x e = refused_before (header_of tape) x (check_rules tape) own e

  -- the list and the answer of a tape whose header is h
  pub tape_accepted : (h : Header) → accept_outcome tape ≡ answered h → (own : Header → List Rule) (x : Header → A)
      → on_tape tape (own (header_of tape)) (x (header_of tape)) ≡ outcome (own h) (x h)
  unfolding on_tape
  tape_accepted h e own x =
      passed_before (header_of tape) (x (header_of tape)) (check_rules tape) (own (header_of tape)) e
      ∙ ap (λ (g : Header). outcome (own g) (x g)) (sym (header_is tape h e))

  -- what an answer says
  module _ (own : List Rule) (x : A) {y : A} (e : on_tape tape own x ≡ answered y) where
    pub answered_tape : accept_outcome tape ≡ answered (header_of tape)
    unfolding on_tape
    answered_tape = still_answered x (header_of tape) (check_rules tape) (answered_before (check_rules tape) own x e).0

    pub answered_own : outcome own x ≡ answered y
    unfolding on_tape
    answered_own = (answered_before (check_rules tape) own x e).1

    pub answered_with : y ≡ x
    answered_with = answer_is own x answered_own

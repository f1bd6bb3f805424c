-- Sessions: run and step begin with the checks of opening, and differ in the last one alone. So a step is run to the neighbouring position.
-- What opening refuses, a step on that tape and record refuses too, and a step of the session that opening then leaves gives 6.
use mathlib.Core.Path.{◌≡◌, refl, sym, ap, ap₂, ◌∙◌}
use mathlib.Core.Bool.{Bool, true, false, cond}
use mathlib.Core.List.{List, [], ◌∷◌, ◌++◌, append_assoc}
use Prim.Native.Nat.{ℕ, suc, ◌-◌, ◌≤◌, ◌<◌}
use native.Mathlib.Omega.{arith}
use native.Mathlib.Decide.{dec_lt}
use lib.Dec.{ltb, eqb, leb-suc-suc}
use borrow.Author.Tests.{ltb-false, lt-ltb, le-ltb, eq-eqb, ne_eqb}
use Rattle.refusal.specs.declared.Refusal.TheVariants.{Position}
use Rattle.refusal.specs.Outcomes.{Outcome, Rule, refused, answered, outcome, refusal_number, and_then, after, ◌given_if◌, gives, passes, answers}
use Rattle.refusal.proofs.Laws.Rules.{behind, passed, refused_range, by_number, zero_answered}
use Rattle.tape.specs.Layout.{is_length, header_of, steps_of}
use Rattle.tape.proofs.Laws.Reading.{length_most}
use Rattle.program.specs.Services.{check_rules}
use Rattle.program.specs.Door.{on_tape}
use Rattle.program.proofs.Laws.Checking.{accepted}
use Rattle.program.proofs.Laws.Door.{answered_tape, answered_own, answered_with}
use Rattle.sequencer.specs.Records.{Record}
use Rattle.sequencer.specs.Services.{record_rules, goal_rules, record_at, run_outcome}
use Rattle.sequencer.specs.Sessions.{neighbour, past_end, step_rules, step_outcome, open_outcome, refused_record, held_tape, held_record, session_outcome}
use Rattle.sequencer.specs.Inner.Goals.{no_position, step_goal}

-- a step on the empty tape
step_empty : (s : Record) (backward : Bool) → step_outcome [] s backward ≡ refused 6
unfolding step_outcome on_tape check_rules is_length outcome
step_empty s backward = refl

module _ (tape : List ℕ) (s : Record) where
  abbrev steps : ℕ
  steps = (header_of tape).steps

  abbrev position : ℕ
  position = s.position

  -- ---- opening comes first

  -- what is left of a run or a step that opening lets pass: whether it leads outside, and where to
  abbrev goes : Bool → ℕ → Outcome Record
  goes outside goal = outcome ((Position given_if outside) ∷ []) (record_at (header_of tape) (steps_of tape) s goal)

  record_first : (more : List Rule) (x : Record) → on_tape tape (record_rules (header_of tape) s ++ more) x ≡ and_then (open_outcome tape s) (λ t. outcome more x)
  unfolding on_tape open_outcome
  record_first more x =
      ap (λ (rules : List Rule). outcome rules x) (sym (append_assoc (check_rules tape) (record_rules (header_of tape) s) more))
      ∙ behind s x (check_rules tape ++ record_rules (header_of tape) s) more

  pub run_opens : (goal : ℕ) → run_outcome tape s goal ≡ and_then (open_outcome tape s) (λ t. goes (ltb steps goal) goal)
  unfolding run_outcome goal_rules
  run_opens goal = record_first _ _

  pub step_opens : (backward : Bool) → step_outcome tape s backward ≡ and_then (open_outcome tape s) (λ t. goes (past_end backward steps position) (neighbour backward position))
  unfolding step_outcome step_rules
  step_opens backward = record_first _ _

  -- where it passes, the record is inside, and the tape accepted, so that it has few steps
  module _ {t : Record} (e : open_outcome tape s ≡ answered t) where
    inside : position ≤ steps
    unfolding open_outcome record_rules
    inside = ltb-false steps position (passed _ _ _ _ _ (passed _ _ _ _ _ (answered_own tape _ s e)).1).0

    few_steps : steps < no_position
    unfolding open_outcome
    few_steps = omega (arith, length_most tape (accepted (header_of tape) tape (answered_tape tape _ s e)).long)

    as_it_was : t ≡ s
    unfolding open_outcome
    as_it_was = answered_with tape _ s e

  -- so two ways are the same that are the same for such a record
  same_way : (t u : Bool) (i j : ℕ) → (position ≤ steps → steps < no_position → goes t i ≡ goes u j)
      → and_then (open_outcome tape s) (λ x. goes t i) ≡ and_then (open_outcome tape s) (λ x. goes u j)
  same_way t u i j same = go (open_outcome tape s) refl
    where
      go : (o : Outcome Record) → open_outcome tape s ≡ o → and_then o (λ x. goes t i) ≡ and_then o (λ x. goes u j)
      go (refused n) e = refl
      go (answered x) e = same (inside e) (few_steps e)

  -- ---- a step is a run

  -- forward to the next position
  pub step_forward : step_outcome tape s false ≡ run_outcome tape s (suc position)
  unfolding past_end neighbour
  step_forward = step_opens false ∙ same_way _ _ _ _ (λ i f. ap (λ (t : Bool). goes t (suc position)) (sym (leb-suc-suc steps position))) ∙ sym (run_opens (suc position))

  -- backward to the position before
  pub step_backward : (n : ℕ) → position ≡ suc n → step_outcome tape s true ≡ run_outcome tape s n
  unfolding past_end neighbour
  step_backward n e =
      let back : position - 1 ≡ n = omega arith in
      let some : eqb position 0 ≡ false = ne_eqb position 0 (λ z. omega arith) in
      step_opens true ∙ same_way _ _ _ _ (λ i f. ap₂ goes (some ∙ sym (le-ltb steps n (omega arith))) back) ∙ sym (run_opens n)

  -- and from either end of all numbers it is refused as a run to where no program goes
  both_outside : (t u : Bool) (i j : ℕ) → t ≡ true → u ≡ true → goes t i ≡ goes u j
  both_outside t u i j e f = gives _ _ _ e ∙ sym (gives _ _ _ f)

  before_0 : position ≡ 0 → step_outcome tape s true ≡ run_outcome tape s no_position
  unfolding past_end
  before_0 e = step_opens true ∙ same_way _ _ _ _ (λ i f. both_outside _ _ _ _ (eq-eqb position 0 e) (lt-ltb steps no_position f)) ∙ sym (run_opens no_position)

  behind_largest : no_position ≤ position → step_outcome tape s false ≡ run_outcome tape s no_position
  behind_largest h = step_opens false ∙ same_way _ _ _ _ (λ i f. absurd (omega arith)) ∙ sym (run_opens no_position)

  -- as the code tells run where to go
  pub step_by_run : (backward : Bool) → step_outcome tape s backward ≡ run_outcome tape s (step_goal backward position)
  unfolding step_goal
  step_by_run true =
      elim (dec_lt 0 position) [
        | yes h ↦ rw (lt-ltb 0 position h) (step_backward (position - 1) (omega arith))
        | no h ↦ rw (le-ltb 0 position (omega arith)) (before_0 (omega arith))
      ]
  step_by_run false =
      elim (dec_lt position no_position) [
        | yes h ↦ rw (lt-ltb position no_position h) step_forward
        | no h ↦ rw (le-ltb position no_position (omega arith)) (behind_largest (omega arith))
      ]

  -- ---- opening

  -- a run to where the record stands is answered where opening is
  pub stands : {t : Record} → open_outcome tape s ≡ answered t → run_outcome tape s position ≡ answered (record_at (header_of tape) (steps_of tape) s position)
  stands e = run_opens position ∙ rw e (passes _ _ _ (le-ltb steps position (inside e)) ∙ answers _)

  -- it is refused as run to where the record stands, and else the record is as it was
  pub open_refused : {n : ℕ} → run_outcome tape s position ≡ refused n → open_outcome tape s ≡ refused n
  open_refused {n} e = go (open_outcome tape s) refl
    where
      go : (o : Outcome Record) → open_outcome tape s ≡ o → o ≡ refused n
      go (refused m) f = sym (run_opens position ∙ rw f refl) ∙ e
      go (answered t) f = let at = stands f in let z : ◌≡◌ {A = ℕ} 0 1 = cc in absurd (omega arith)

  pub open_answered : {t : Record} → run_outcome tape s position ≡ answered t → open_outcome tape s ≡ answered s
  open_answered {t} e = go (open_outcome tape s) refl
    where
      go : (o : Outcome Record) → open_outcome tape s ≡ o → o ≡ answered s
      go (refused m) f = let at : run_outcome tape s position ≡ refused m = run_opens position ∙ rw f refl in let z : ◌≡◌ {A = ℕ} 0 1 = cc in absurd (omega arith)
      go (answered x) f = ap answered (as_it_was f)

  open_number : {n : ℕ} → open_outcome tape s ≡ refused n → 1 ≤ n
  unfolding open_outcome on_tape
  open_number e = (refused_range _ s e).0

  -- what a session holds of its tape, by opening's number
  pub held_by_number : held_tape (open_outcome tape s) tape ≡ cond (eqb (refusal_number (open_outcome tape s)) 0) tape []
  held_by_number = go (open_outcome tape s) (λ n e. open_number e)
    where
      go : (o : Outcome Record) → ((n : ℕ) → o ≡ refused n → 1 ≤ n) → held_tape o tape ≡ cond (eqb (refusal_number o) 0) tape []
      go (refused n) some = rw (ne_eqb n 0 (λ e. omega (arith, some n refl))) refl
      go (answered t) some = refl

  -- opening's number tells that it passes
  pub opened : refusal_number (open_outcome tape s) ≡ 0 → open_outcome tape s ≡ answered s
  unfolding open_outcome on_tape
  opened zero = (zero_answered s s s _ zero).0

  -- ---- a step of the session that is opened

  module _ (backward : Bool) where
    -- a refused one holds the empty tape, so its step gives 6
    pub refused_session : {n : ℕ} → open_outcome tape s ≡ refused n → session_outcome tape s backward ≡ refused 6
    unfolding session_outcome
    refused_session e = rw e (step_empty refused_record backward)

    -- and the step on that tape and record is refused as opening was
    step_refused : {n : ℕ} → open_outcome tape s ≡ refused n → step_outcome tape s backward ≡ refused n
    step_refused e = step_opens backward ∙ rw e refl

    -- the step of another one is that on the tape and record
    opened_session : open_outcome tape s ≡ answered s → session_outcome tape s backward ≡ step_outcome tape s backward
    unfolding session_outcome
    opened_session e = rw e refl

    -- so opening and a step of the session come to the step itself, told by the two numbers
    pub not_opened : ¬ (refusal_number (open_outcome tape s) ≡ 0) → step_outcome tape s backward ≡ refused (refusal_number (open_outcome tape s))
    not_opened some = step_refused (by_number _ some)

    module _ (zero : refusal_number (open_outcome tape s) ≡ 0) where
      same : session_outcome tape s backward ≡ step_outcome tape s backward
      same = opened_session (opened zero)

      pub not_stepped : ¬ (refusal_number (session_outcome tape s backward) ≡ 0)
          → step_outcome tape s backward ≡ refused (refusal_number (session_outcome tape s backward))
      not_stepped some = sym same ∙ by_number _ some

      pub stepped : refusal_number (session_outcome tape s backward) ≡ 0
          → step_outcome tape s backward ≡ answered (after (session_outcome tape s backward) (held_record (open_outcome tape s)))
      unfolding step_outcome on_tape
      stepped none =
          let answer = (zero_answered _ s s _ (sym (ap refusal_number same) ∙ none)).0 in
          answer ∙ ap (λ (o : Outcome Record). answered (after o (held_record (open_outcome tape s)))) (sym (same ∙ answer))

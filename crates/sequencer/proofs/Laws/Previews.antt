-- The preview is by run's own list, so it is refused as a run is, and what it shows is the record that a run on a copy answers; it counts
-- the steps of the way that the run goes.
use mathlib.Core.Path.{◌≡◌, refl, sym, ap, ◌∙◌}
use mathlib.Core.List.{List, [], ◌∷◌}
use Prim.Native.Nat.{ℕ, ◌+◌, ◌-◌, ◌≤◌, ◌<◌}
use native.Mathlib.Omega.{arith}
use lib.ListN.{length, get_or, length-map}
use borrow.Author.Tests.{ltb-false}
use Rattle.refusal.specs.Outcomes.{Outcome, refused, answered, outcome, refusal_number, and_then}
use Rattle.refusal.proofs.Laws.Rules.{made_of, still_answered, passed, by_number}
use Rattle.tape.specs.declared.Step.{Step}
use Rattle.tape.specs.Layout.{max_steps, is_length, header_of, step_words_of, part, steps_in, steps_of}
use Rattle.tape.specs.Inner.Operations.{raw_steps}
use Rattle.tape.proofs.Laws.Rows.{words_count}
use Rattle.tape.proofs.Laws.Reading.{length_most}
use Rattle.machine.specs.Machine.{do_all, inverted}
use Rattle.machine.specs.Ways.{way, counts_of}
use Rattle.machine.proofs.Laws.Ways.{run_way, way_forward, way_backward, run_here}
use Rattle.machine.proofs.Laws.Counts.{exchanged, counts_inverted, counts_total, counts_here, counts_back, way_length}
use Rattle.program.specs.Services.{check_rules}
use Rattle.program.specs.Door.{on_tape}
use Rattle.program.proofs.Laws.Checking.{accepted}
use Rattle.program.proofs.Laws.Door.{answered_tape, answered_own, answered_with}
use Rattle.sequencer.specs.Records.{Record}
use Rattle.sequencer.specs.Services.{record_rules, goal_rules, run_rules, record_at, run_outcome}
use Rattle.sequencer.specs.Sessions.{open_outcome, refused_record}
use Rattle.sequencer.specs.Previews.{Shown, shown_at, preview_outcome, session_preview}
use Rattle.sequencer.specs.Inner.Runs.{Inside}
use Rattle.sequencer.proofs.Laws.Cases.{words_steps}
use Rattle.sequencer.proofs.Laws.Positions.{raw_part}
use Rattle.sequencer.proofs.Laws.Sessions.{run_opens, stands, opened}

-- on the empty tape
preview_empty : (s : Record) (goal : ℕ) → preview_outcome [] s goal ≡ refused 6
unfolding preview_outcome on_tape check_rules is_length outcome
preview_empty s goal = refl

-- ---- the words that the counts are read off

-- a run that is answered leads from one position of its steps to another, and these are few
pub run_inside : (tape : List ℕ) (s : Record) (goal : ℕ) {t : Record} → run_outcome tape s goal ≡ answered t
    → Inside (step_words_of tape) s.position goal × (length (step_words_of tape) ≤ max_steps)
unfolding run_outcome goal_rules record_rules
run_inside tape s goal e =
    let h = header_of tape in
    let there = record_at h (steps_of tape) s goal in
    let accept = answered_tape tape _ there e in
    let registers = passed _ _ _ _ _ (answered_own tape _ there e) in
    let from = passed _ _ _ _ _ registers.1 in
    let count = words_count tape in (
      record {
        are_steps = words_steps tape h accept;
        from_inside = omega (arith, ltb-false h.steps s.position from.0);
        goal_inside = omega (arith, ltb-false h.steps goal (passed _ _ _ _ _ from.1).0);
      },
      omega (arith, length_most tape (accepted h tape accept).long),
    )

-- the steps in the digits of the words between are those of the way, forward, and those of the way taken back, backward
module _ (words : List ℕ) (i j : ℕ) (inside : Inside words i j) where
  pub counts_forward : i ≤ j → counts_of (raw_steps (part words i j)) ≡ counts_of (way (steps_in words) i j)
  counts_forward order = ap counts_of (raw_part words inside.are_steps i j order inside.goal_inside ∙ sym (way_forward (steps_in words) i j order))

  pub counts_backward : j < i → exchanged (counts_of (raw_steps (part words j i))) ≡ counts_of (way (steps_in words) i j)
  counts_backward order =
      sym (counts_inverted (raw_steps (part words j i)))
      ∙ ap (λ (l : List Step). counts_of (inverted l)) (raw_part words inside.are_steps j i (omega arith) inside.from_inside)
      ∙ ap counts_of (sym (way_backward (steps_in words) i j order))

module _ (tape : List ℕ) (s : Record) where
  abbrev p : ℕ
  p = (header_of tape).modulus

  abbrev xs : List Step
  xs = steps_of tape

  abbrev position : ℕ
  position = s.position

  module _ (goal : ℕ) where
    -- the steps that are really done on the way
    abbrev done : List Step
    done = way xs position goal

    -- what is shown of the record that a run answers
    abbrev shown : Record → Shown
    shown t = record { registers = t.registers; counts = counts_of done }

    -- ---- a preview is a run on a copy

    pub preview_run : preview_outcome tape s goal ≡ and_then (run_outcome tape s goal) (λ t. answered (shown t))
    unfolding preview_outcome run_outcome on_tape run_rules
    preview_run = made_of shown (record_at (header_of tape) xs s goal) (run_rules tape s goal)

    -- refused exactly as it is
    pub preview_number : refusal_number (preview_outcome tape s goal) ≡ refusal_number (run_outcome tape s goal)
    preview_number = ap refusal_number preview_run ∙ go (run_outcome tape s goal)
      where
        go : (o : Outcome Record) → refusal_number (and_then o (λ t. answered (shown t))) ≡ refusal_number o
        go (refused n) = refl
        go (answered t) = refl

    module _ {w : Shown} (e : preview_outcome tape s goal ≡ answered w) where
      shows : w ≡ shown_at (header_of tape) xs s goal
      unfolding preview_outcome
      shows = answered_with tape _ _ e

      -- and else what is shown is what it answers
      pub preview_answered : run_outcome tape s goal ≡ answered (record { registers = w.registers; position = goal })
      unfolding preview_outcome run_outcome on_tape run_rules
      preview_answered =
          still_answered (shown_at (header_of tape) xs s goal) (record_at (header_of tape) xs s goal) (run_rules tape s goal) e
          ∙ ap (λ (x : Shown). answered (record { registers = x.registers; position = goal })) (sym shows)

      -- the steps that are counted are those that make the registers
      pub preview_way : (w.registers ≡ do_all p done s.registers) × (w.counts ≡ counts_of done)
      preview_way = (ap (λ (x : Shown). x.registers) shows ∙ run_way p xs position goal s.registers, ap (λ (x : Shown). x.counts) shows)

      -- the three counts add up to how far the goal is
      pub preview_distance : get_or w.counts 0 0 + get_or w.counts 1 0 + get_or w.counts 2 0 ≡ (goal - position) + (position - goal)
      preview_distance =
          let inside = (run_inside tape s goal preview_answered).0 in
          let as_many : length xs ≡ length (step_words_of tape) = length-map (step_words_of tape) _ in
          rw preview_way.1
          (counts_total done ∙ way_length xs position goal (omega (arith, inside.from_inside)) (omega (arith, inside.goal_inside)))

      -- on the way back from a record there, mul and div are exchanged
      pub preview_back : (t : Record) → t.position ≡ goal → {b : Shown} → preview_outcome tape t position ≡ answered b → b.counts ≡ exchanged w.counts
      unfolding preview_outcome
      preview_back t at f =
          ap (λ (x : Shown). x.counts) (answered_with tape _ _ f)
          ∙ ap (λ (i : ℕ). counts_of (way xs i position)) at
          ∙ counts_back xs position goal
          ∙ ap exchanged (sym preview_way.1)

    -- ---- a preview of the session that is opened

    -- opening comes first
    opens : {n : ℕ} → open_outcome tape s ≡ refused n → preview_outcome tape s goal ≡ refused n
    opens e = preview_run ∙ rw (run_opens tape s goal, e) refl

    pub preview_not_opened : ¬ (refusal_number (open_outcome tape s) ≡ 0) → preview_outcome tape s goal ≡ refused (refusal_number (open_outcome tape s))
    preview_not_opened some = opens (by_number _ some)

    pub preview_opened : refusal_number (open_outcome tape s) ≡ 0 → session_preview tape s goal ≡ preview_outcome tape s goal
    unfolding session_preview
    preview_opened zero = rw (opened tape s zero) refl

    -- a refused one holds the empty tape, so its preview gives 6
    pub refused_preview : {n : ℕ} → open_outcome tape s ≡ refused n → session_preview tape s goal ≡ refused 6
    unfolding session_preview
    refused_preview e = rw e (preview_empty refused_record goal)

  -- ---- where the record stands

  abbrev here : Shown
  here = record { registers = s.registers; counts = 0 ∷ 0 ∷ 0 ∷ [] }

  -- a preview is refused as opening is, and else shows the registers and three zeros
  pub preview_here : preview_outcome tape s position ≡ and_then (open_outcome tape s) (λ t. answered here)
  preview_here = go (open_outcome tape s) refl
    where
      go : (o : Outcome Record) → open_outcome tape s ≡ o → preview_outcome tape s position ≡ and_then o (λ t. answered here)
      go (refused n) e = opens position e
      go (answered t) e = preview_run position ∙ rw (stands tape s e, counts_here xs position, run_here p xs position s.registers) refl

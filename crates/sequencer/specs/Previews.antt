-- Document 02, T-05: the preview. What a run makes of the registers, on a copy, and the mul, div and swp steps on its way.
use Rattle.std.specs.Prelude.{List, ℕ, Result}
use Rattle.refusal.specs.declared.Refusal.{Refusal}
use Rattle.refusal.specs.Refusals.{number_of}
use Rattle.refusal.specs.Outcomes.{Outcome, refused, answered, and_then, outcome_by}
use Rattle.tape.specs.declared.Header.{Header}
use Rattle.tape.specs.declared.Step.{Step}
use Rattle.tape.specs.Layout.{header_of, steps_of}
use Rattle.machine.specs.Machine.{values_of}
use Rattle.machine.specs.Ways.{way, counts_of, count_numbers}
use Rattle.program.specs.Door.{on_tape}
use Rattle.sequencer.specs.declared.Preview.{Preview}
use Rattle.sequencer.specs.Records.{Record}
use Rattle.sequencer.specs.Services.{goal_rules, record_at}
use Rattle.sequencer.specs.Sessions.{on_session}

-- what a preview shows: the four registers, and three counts, of mul, div and swp
pub record Shown : Type 0 where
  pub registers : List ℕ
  pub counts : List ℕ

-- at a goal: the registers of the record there, and the counts of the steps that are really done on the way from where the record stands,
-- so an undone mul is a div and an undone div is a mul
abbrev pub shown_at : Header → List Step → Record → ℕ → Shown
shown_at h xs s goal = record { registers = (record_at h xs s goal).registers; counts = counts_of (way xs s.position goal) }

-- preview: what is shown at its goal; run's refusals, by run's own list
unfoldable pub preview_outcome : List ℕ → Record → ℕ → Outcome Shown
preview_outcome tape s goal = let h = header_of tape in on_tape tape (goal_rules h s goal) (shown_at h (steps_of tape) s goal)

-- a preview of the session that is opened on a tape and a record
unfoldable pub session_preview : List ℕ → Record → ℕ → Outcome Shown
session_preview tape s goal = on_session tape s (λ t r. preview_outcome t r goal)

-- ---- as two rows

abbrev pub registers_outcome : Outcome Shown → Outcome (List ℕ)
registers_outcome o = and_then o (λ w. answered w.registers)

abbrev pub counts_outcome : Outcome Shown → Outcome (List ℕ)
counts_outcome o = and_then o (λ w. answered w.counts)

-- ---- the code's values

-- what a `Preview` of the code shows
abbrev pub shown_of : Preview → Shown
shown_of w = record { registers = values_of w.registers; counts = count_numbers w.counts }

-- the outcome that an answer of the code stands for
abbrev pub preview_outcome_of : Result Preview Refusal → Outcome Shown
preview_outcome_of = outcome_by shown_of

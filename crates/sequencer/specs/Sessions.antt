-- Document 02, T-04: sessions. A session carries the tape it was opened on, its registers and its position, and goes one step either way,
-- as run to the neighbouring position does.
use Rattle.std.specs.Prelude.{Bool, not, cond, List, [], ◌∷◌, ◌++◌, ℕ, suc, ◌-◌, leb, eqb}
use Rattle.refusal.specs.declared.Refusal.TheVariants.{Position}
use Rattle.refusal.specs.Outcomes.{Outcome, Rule, refused, answered, ◌given_if◌}
use Rattle.tape.specs.declared.Header.{Header}
use Rattle.tape.specs.Layout.{header_of, steps_of}
use Rattle.program.specs.Door.{on_tape}
use Rattle.sequencer.specs.Records.{Record}
use Rattle.sequencer.specs.Services.{record_rules, record_at}

-- ---- one step

-- the neighbouring position, where there is one
unfoldable pub neighbour : Bool → ℕ → ℕ
neighbour backward position = cond backward (position - 1) (suc position)

-- the step would go past either end: backward from 0, or forward from the step count
unfoldable pub past_end : Bool → ℕ → ℕ → Bool
past_end backward steps position = cond backward (eqb position 0) (leb steps position)

-- a step's own refusals: the record's, as run's; 10 past either end
unfoldable pub step_rules : Header → Record → Bool → List Rule
step_rules h s backward = record_rules h s ++ (Position given_if past_end backward h.steps s.position) ∷ []

-- one step: the record at the neighbouring position
unfoldable pub step_outcome : List ℕ → Record → Bool → Outcome Record
step_outcome tape s backward =
    let h = header_of tape in
    on_tape tape (step_rules h s backward) (record_at h (steps_of tape) s (neighbour backward s.position))

-- the way of a step as a number, as C and the tool have it: 0 is forward, any other backward
abbrev pub is_backward : ℕ → Bool
is_backward n = not (eqb n 0)

-- ---- sessions

-- opening makes the checks that run begins with, which are those of a run to where the record stands
unfoldable pub open_outcome : List ℕ → Record → Outcome Record
open_outcome tape s = on_tape tape (record_rules (header_of tape) s) s

-- a refused session holds an empty tape, four ones and position 0
abbrev pub refused_record : Record
refused_record = record { registers = 1 ∷ 1 ∷ 1 ∷ 1 ∷ []; position = 0 }

abbrev pub held_tape : Outcome Record → List ℕ → List ℕ
held_tape (refused n) tape = []
held_tape (answered s) tape = tape

abbrev pub held_record : Outcome Record → Record
held_record (refused n) = refused_record
held_record (answered s) = s

-- a service on what the session holds that is opened on a tape and a record
abbrev pub on_session : {A : Type 0} → List ℕ → Record → (List ℕ → Record → Outcome A) → Outcome A
on_session tape s service = let o = open_outcome tape s in service (held_tape o tape) (held_record o)

-- a step of it
unfoldable pub session_outcome : List ℕ → Record → Bool → Outcome Record
session_outcome tape s backward = on_session tape s (λ t r. step_outcome t r backward)

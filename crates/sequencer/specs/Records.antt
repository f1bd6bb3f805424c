-- Document 02, T-04: the register record, which holds the position beside the four registers.
use Rattle.std.specs.Prelude.{List, [], ◌∷◌, ◌++◌, ℕ, get_or, Result}
use Rattle.refusal.specs.declared.Refusal.{Refusal}
use Rattle.refusal.specs.Refusals.{number_of}
use Rattle.refusal.specs.Outcomes.{Outcome, refused, answered, and_then, outcome_by}
use Rattle.machine.specs.Machine.{values_of}
use Rattle.sequencer.specs.declared.State.{State}

pub record Record : Type 0 where
  pub registers : List ℕ
  pub position : ℕ

-- ---- as one row: the registers, then the position

abbrev pub record_numbers : ℕ
record_numbers = 5

abbrev pub row_of : Record → List ℕ
row_of s = s.registers ++ s.position ∷ []

-- the record that a row's first five numbers are
abbrev pub record_in : List ℕ → Record
record_in row = record { registers = get_or row 0 0 ∷ get_or row 1 0 ∷ get_or row 2 0 ∷ get_or row 3 0 ∷ []; position = get_or row 4 0 }

abbrev pub row_outcome : Outcome Record → Outcome (List ℕ)
row_outcome o = and_then o (λ s. answered (row_of s))

-- ---- the code's values

-- the record that a `State` of the code is
abbrev pub record_of : State → Record
record_of s = record { registers = values_of s.registers; position = s.position }

-- the outcome that an answer of the code stands for
abbrev pub state_outcome_of : Result State Refusal → Outcome Record
state_outcome_of = outcome_by record_of

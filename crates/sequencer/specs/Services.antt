-- Load, run, trace and cut: check's refusals, then their own, else the register record, exponents, or a part of the tape.
use Rattle.std.specs.Prelude.{Bool, false, not, ◌&&◌, ◌||◌, List, [], ◌∷◌, ◌++◌, ℕ, leb, ltb, eqb, ℤ, length, take}
use Rattle.refusal.specs.declared.Refusal.TheVariants.{Register, Position, Base, Range}
use Rattle.refusal.specs.Outcomes.{Outcome, Rule, refused, answered, and_then, ◌given_if◌}
use Rattle.orders.specs.Orders.{is_order}
use Rattle.tape.specs.declared.Header.{Header}
use Rattle.tape.specs.declared.Step.{Step}
use Rattle.tape.specs.Layout.{header_of, step_index, step_words, steps_of}
use Rattle.machine.specs.Machine.{run, start}
use Rattle.machine.specs.Exponents.{start_exponents, exponents_at, stays_in_range}
use Rattle.program.specs.Services.{is_named, check_rules}
use Rattle.program.specs.Door.{on_tape}
use Rattle.sequencer.specs.Records.{Record}

-- refusal 9: a register or base is 0 or at least p
unfoldable pub bad_register : ℕ → ℕ → Bool
bad_register p x = eqb x 0 || leb p x

-- one of several numbers is
unfoldable pub bad_registers : ℕ → List ℕ → Bool
bad_registers p [] = false
bad_registers p (x ∷ v) = bad_register p x || bad_registers p v

-- a base that a named program takes: its order is r
unfoldable pub allowed : Header → ℕ → Bool
allowed h a = is_order h.modulus a h.order

-- refusal 11: named program, r isn't the base's order
unfoldable pub bad_base : Header → ℕ → Bool
bad_base h a = is_named h && not (allowed h a)

-- a base's own refusals: 9, 11
unfoldable pub base_rules : Header → ℕ → List Rule
base_rules h a =
    (Register given_if bad_register h.modulus a)
    ∷ (Base given_if bad_base h a)
    ∷ []

-- (1, a, 1, 1) at position 0
abbrev pub start_record : ℕ → Record
start_record a = record { registers = start a; position = 0 }

-- load: the record to start from
unfoldable pub load_outcome : List ℕ → ℕ → Outcome Record
load_outcome tape a = on_tape tape (base_rules (header_of tape) a) (start_record a)

-- a record's own refusals: 9; 10 where its position is above the step count
unfoldable pub record_rules : Header → Record → List Rule
record_rules h s =
    (Register given_if bad_registers h.modulus s.registers)
    ∷ (Position given_if ltb h.steps s.position)
    ∷ []

-- run's own refusals: the record's; 10 where its goal is above the step count
unfoldable pub goal_rules : Header → Record → ℕ → List Rule
goal_rules h s goal = record_rules h s ++ (Position given_if ltb h.steps goal) ∷ []

-- the refusals listed for run
unfoldable pub run_rules : List ℕ → Record → ℕ → List Rule
run_rules tape s goal = check_rules tape ++ goal_rules (header_of tape) s goal

-- the record at a goal: what the steps between its position and the goal make of its registers
abbrev pub record_at : Header → List Step → Record → ℕ → Record
record_at h xs s goal = record { registers = run h.modulus xs s.position goal s.registers; position = goal }

-- run: the record at its goal
unfoldable pub run_outcome : List ℕ → Record → ℕ → Outcome Record
run_outcome tape s goal = let h = header_of tape in on_tape tape (goal_rules h s goal) (record_at h (steps_of tape) s goal)

-- forward: load, then run to the step count
unfoldable pub forward_outcome : List ℕ → ℕ → Outcome Record
forward_outcome tape a = and_then (load_outcome tape a) (λ s. run_outcome tape s (header_of tape).steps)

-- trace's own refusals: 10, and 12 where any position up to the given one leaves the range
unfoldable pub trace_rules : Header → List Step → ℕ → List Rule
trace_rules h xs position =
    (Position given_if ltb h.steps position)
    ∷ (Range given_if not (stays_in_range (take position xs) start_exponents))
    ∷ []

-- trace: each register's whole exponent at a position
unfoldable pub trace_outcome : List ℕ → ℕ → Outcome (List ℤ)
trace_outcome tape position = on_tape tape (trace_rules (header_of tape) (steps_of tape) position) (exponents_at (steps_of tape) position)

-- refusal 10 in a cut: a position above the step count, or first above last
unfoldable pub bad_cut : ℕ → ℕ → ℕ → Bool
bad_cut steps first last = ltb steps first || ltb steps last || ltb last first

-- cut's own refusals
unfoldable pub cut_rules : Header → ℕ → ℕ → List Rule
cut_rules h first last = (Position given_if bad_cut h.steps first last) ∷ []

-- cut: the step words numbered first + 1 to last
unfoldable pub cut_outcome : List ℕ → ℕ → ℕ → Outcome (List ℕ)
cut_outcome tape first last = on_tape tape (cut_rules (header_of tape) first last) (step_words tape first last)

-- a refused cut is an empty part beside its number
abbrev pub cut_part : Outcome (List ℕ) → List ℕ
cut_part (refused n) = []
cut_part (answered words) = words

-- where the part stands in the tape: the index of its first word, and how many words it has
unfoldable pub cut_start : List ℕ → ℕ → ℕ → Outcome ℕ
cut_start tape first last = on_tape tape (cut_rules (header_of tape) first last) (step_index tape first)

unfoldable pub cut_count : List ℕ → ℕ → ℕ → Outcome ℕ
cut_count tape first last = on_tape tape (cut_rules (header_of tape) first last) (length (step_words tape first last))

-- Document 02, T-02: the trace with four unknowns. The table at a position, and what is said of every answer.
use Rattle.std.specs.Prelude.{◌≡◌, not, List, [], ◌∷◌, map, ℕ, ltb, take}
use Rattle.refusal.specs.declared.Refusal.TheVariants.{Position, Range}
use Rattle.refusal.specs.Outcomes.{Outcome, Rule, answered, ◌given_if◌}
use Rattle.matrices.specs.Matrices.{Matrix, determinant}
use Rattle.tape.specs.declared.Header.{Header}
use Rattle.tape.specs.declared.Step.{Step}
use Rattle.tape.specs.Layout.{header_of, steps_of}
use Rattle.machine.specs.Machine.{run, Residues}
use Rattle.machine.specs.Ways.{count_where, is_swp}
use Rattle.tables.specs.Tables.{table_of, table_stays, power_product, sign_of}
use Rattle.program.specs.Door.{on_tape}

-- the table's own refusals: 10, and 12 where any entry leaves the range at any position up to the given one
unfoldable pub table_rules : Header → List Step → ℕ → List Rule
table_rules h xs position =
    (Position given_if ltb h.steps position)
    ∷ (Range given_if not (table_stays (take position xs)))
    ∷ []

-- the table at a position
unfoldable pub table_outcome : List ℕ → ℕ → Outcome Matrix
table_outcome tape position =
    let xs = steps_of tape in
    on_tape tape (table_rules (header_of tape) xs position) (table_of (take position xs))

-- what an answer says of registers: a run to that position, from any four registers from 1 to p - 1, leaves in each the product of the start
-- values to its row's exponents, modulo p
abbrev pub MeansProducts : List ℕ → ℕ → Outcome Matrix → Type 0
MeansProducts tape position answer =
    let p = (header_of tape).modulus in
    (m : Matrix) → answer ≡ answered m → (v : List ℕ) → Residues p v → run p (steps_of tape) 0 position v ≡ map (power_product p v) m

-- an answer's determinant is 1 after an even number of swaps, -1 after an odd number
abbrev pub HasSign : List ℕ → ℕ → Outcome Matrix → Type 0
HasSign tape position answer = (m : Matrix) → answer ≡ answered m → determinant 4 m ≡ sign_of (count_where is_swp (take position (steps_of tape)))

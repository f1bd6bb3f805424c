-- What steps come to on whole exponents: 12 where one leaves the range, else those of one start value, or of all four.
use Rattle.std.specs.Prelude.{not, List, [], ◌∷◌, ℕ, ℤ}
use Rattle.refusal.specs.declared.Refusal.TheVariants.{Range}
use Rattle.refusal.specs.Outcomes.{Outcome, outcome, ◌given_if◌}
use Rattle.matrices.specs.Matrices.{Matrix}
use Rattle.tape.specs.declared.Step.{Step}
use Rattle.machine.specs.Exponents.{stays_in_range}
use Rattle.tables.specs.Tables.{unit, column_after, table_of, table_stays}

unfoldable pub column_outcome : List Step → ℕ → Outcome (List ℤ)
column_outcome xs j = outcome ((Range given_if not (stays_in_range xs (unit j))) ∷ []) (column_after xs j)

unfoldable pub columns_outcome : List Step → Outcome Matrix
columns_outcome xs = outcome ((Range given_if not (table_stays xs)) ∷ []) (table_of xs)

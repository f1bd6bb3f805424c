-- Writing words one after another into a lent row, by a `Writer`.
use Rattle.std.specs.Prelude.{◌≡◌, List, ℕ, ◌+◌, ◌≤◌, length}
use Rattle.refusal.specs.Rows.{Wrote}
use Rattle.building.specs.declared.writer.Writer.{Writer}

-- the row has room for words
abbrev pub HasRoom : Writer → List ℕ → Type 0
HasRoom w words = w.next + length words ≤ length w.row.now

-- the words are written from the next index on, in the same lent row
pub record Writes (before : Writer) (words : List ℕ) (after : Writer) : Type 0 where
  pub same_row : after.row.ghost_name ≡ before.row.ghost_name
  pub same_length : length after.row.now ≡ length before.row.now
  pub wrote : Wrote before.row.now before.next words after.next after.row.now

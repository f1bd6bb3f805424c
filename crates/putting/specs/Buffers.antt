-- A lent row of bytes that is filled from an index on.
use Rattle.std.specs.Prelude.{◌≡◌, List, ℕ}
use Rattle.std.specs.Borrow.{MutBor}
use Rattle.text.specs.Rows.{Put}
use Rattle.putting.specs.declared.Buffer.{Buffer}

-- the text is put behind what was put before, into the same row
pub record Puts (before : Buffer) (text : List ℕ) (after : Buffer) : Type 0 where
  pub same_row : after.row.ghost_name ≡ before.row.ghost_name
  pub put : Put before.row.now before.next text after.next after.row.now

-- nothing is put yet
pub record Fresh (row : MutBor (List ℕ)) (buffer : Buffer) : Type 0 where
  pub same_row : buffer.row.ghost_name ≡ row.ghost_name
  pub same_bytes : buffer.row.now ≡ row.now
  pub at_start : buffer.next ≡ 0

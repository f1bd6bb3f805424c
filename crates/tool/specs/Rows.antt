-- What the code's replies stand for; for contracts.
use Rattle.std.specs.Prelude.{◌≡◌, List, ℕ, ◌≤◌, length}
use Rattle.text.specs.Rows.{Put}
use Rattle.tool.specs.declared.Reply.{Reply}
use Rattle.tool.specs.Replies.{Replied}

-- no text of a reply is longer
abbrev pub max_text : ℕ
max_text = 8192

-- a reply stands in a row from its start: its status, its text, which is never too long, and how many of its bytes stand there. Where the
-- row is shorter, what doesn't fit is dropped.
pub record Told (before : List ℕ) (r : Replied) (told : Reply) (after : List ℕ) : Type 0 where
  pub status : told.status ≡ r.status
  pub text : Put before 0 r.text told.length after
  pub short : length r.text ≤ max_text

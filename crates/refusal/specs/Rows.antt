-- Writing words into a lent buffer, one after another.
use Rattle.std.specs.Prelude.{◌≡◌, List, ℕ, ◌+◌, length}
use Rattle.std.proofs.lemmas.List.Edits.{sets}

-- the words stand in the row from `at` on, where nothing else changed, and `next` is the index past them
pub record Wrote (before : List ℕ) (at : ℕ) (words : List ℕ) (next : ℕ) (after : List ℕ) : Type 0 where
  pub next_is : next ≡ at + length words
  pub after_is : after ≡ sets before at words

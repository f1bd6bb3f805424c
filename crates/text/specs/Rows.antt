-- Putting elements, as bytes or words, into a lent buffer, one text after another. Whatever the row's length, what doesn't fit is dropped.
use Rattle.std.specs.Prelude.{◌≡◌, List, ℕ, ◌+◌, ◌-◌, length, take}
use Rattle.std.proofs.lemmas.List.Edits.{sets}

-- as much of a text as a row has room for from `at` on
abbrev pub fitting : {A : Type 0} → List A → ℕ → List A → List A
fitting row at text = take (length row - at) text

-- it is written into the row from `at` on, where nothing else changes, and `next` is the index past it
pub record Put {A : Type 0} (before : List A) (at : ℕ) (text : List A) (next : ℕ) (after : List A) : Type 0 where
  pub next_is : next ≡ at + length (fitting before at text)
  pub after_is : after ≡ sets before at (fitting before at text)

-- What the code that leaves a tape at hand is given: rows that are short enough, a place in the tape.
use Rattle.std.specs.Prelude.{List, ℕ, ◌≤◌, length, Result}
use Rattle.refusal.specs.declared.Refusal.{Refusal}
use Rattle.scripting.specs.declared.Marks.{Marks}
use Rattle.scripting.specs.States.{Inside, count_in}

-- a row of at most so many words
pub record ShortRow (most : ℕ) (m : Marks) (tapes row : List ℕ) : Type 0 where
  pub inside : Inside m tapes
  pub short : length row ≤ most

-- one that a build has written, with its answer
pub record WrittenRow (most : ℕ) (m : Marks) (tapes row : List ℕ) (answer : Result ℕ Refusal) : Type 0 where
  pub inside : Inside m tapes
  pub short : length row ≤ most
  pub counted : count_in answer ≤ length row

-- a place in the tape at hand, or past its end
pub record Placed (m : Marks) (tapes : List ℕ) (at : ℕ) : Type 0 where
  pub inside : Inside m tapes
  pub behind : m.begin ≤ at
  pub within : at ≤ m.end

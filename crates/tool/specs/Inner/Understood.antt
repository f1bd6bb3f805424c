-- What a command line that the code has read stands for.
use Rattle.std.specs.Prelude.{◌≡◌, Bool, Option, Some, None, List, [], ℕ, ◌≤◌, ◌<◌, ◌-◌, length, get_or, take, drop}
use Rattle.tool.specs.declared.Row.{Row}
use Rattle.tool.specs.declared.CommandLine.{CommandLine}
use Rattle.tool.specs.declared.Call.{Call}
use Rattle.tool.specs.declared.Call.TheVariants.{NoWord, NoVerb, WrongCount, Unread, Known}
use Rattle.tool.specs.Verbs.{max_parameters, largest64, limit_of, index_in}
use Rattle.tool.specs.Calls.{Asked, no_word, no_verb, wrong_count, unread, known, numbers_from, with_numbers, asked_by}
use Rattle.tool.specs.Inner.Held.{AllAtMost}

-- what a call of the code asks for, with the words and the row of parameters beside it
abbrev pub asked_for : Call → List (List ℕ) → List ℕ → Asked
asked_for NoWord words values = no_word
asked_for NoVerb words values = no_verb (get_or words 0 [])
asked_for (WrongCount row given) words values = wrong_count (get_or words 0 []) row given
asked_for (Unread row index) words values = unread (get_or words index []) row (index - 1)
asked_for (Known row count) words values = known row (take count values)

-- the bytes of the longest name
abbrev pub longest_name : ℕ
longest_name = 10

-- what is told of a wrong count is short: a name of the table, and counts
pub record Miscounted (word : List ℕ) (row : Row) (given : ℕ) : Type 0 where
  pub name : length word ≤ longest_name
  pub least : row.least ≤ max_parameters
  pub most : row.most ≤ max_parameters
  pub count : given ≤ largest64

-- a word that isn't read stands behind the verb, and its limit has 64 bits
pub record Misread (row : Row) (index : ℕ) : Type 0 where
  pub behind : 1 ≤ index
  pub largest : row.largest ≤ largest64

-- parameters that are in the row and in their range
pub record Ranged (row : Row) (count : ℕ) (values : List ℕ) : Type 0 where
  pub few : count ≤ max_parameters
  pub within : AllAtMost (limit_of row.verb) (take count values)

-- what holds of a call beside what it asks for
abbrev pub InRange : Call → List (List ℕ) → List ℕ → Type 0
InRange NoWord words values = 0 ≤ 0
InRange NoVerb words values = 0 ≤ 0
InRange (WrongCount row given) words values = Miscounted (get_or words 0 []) row given
InRange (Unread row index) words values = Misread row index
InRange (Known row count) words values = Ranged row count values

-- a command line as the code has read it: the call asks for what the words do, and its numbers are in their ranges
pub record Understood (in_script : Bool) (words : List (List ℕ)) (r : Call) (values : List ℕ) : Type 0 where
  pub asked : asked_for r words values ≡ asked_by in_script words
  pub in_range : InRange r words values
  pub size : length values ≡ max_parameters

-- the place of a word among some, where it stands there
abbrev pub Placed : List ℕ → List (List ℕ) → Option ℕ → Type 0
Placed word words None = length words ≤ index_in word words
Placed word words (Some place) = (place < length words) × (place ≡ index_in word words)

-- a call whose parameters aren't looked at
pub record Bare (call : Call) (line : CommandLine) : Type 0 where
  pub is : line.call ≡ call
  pub size : length line.values ≡ max_parameters

-- the words after a verb, whose count is right
pub record Countable (row : Row) (words : List (List ℕ)) (count : ℕ) : Type 0 where
  pub few : count ≤ max_parameters
  pub all : count ≡ length words - 1
  pub largest : row.largest ≤ limit_of row.verb

-- the same as `Understood` of a verb whose count of parameters is right
pub record Gathered (row : Row) (words : List (List ℕ)) (r : Call) (values : List ℕ) : Type 0 where
  pub asked : asked_for r words values ≡ with_numbers row (drop 1 words) (numbers_from row 0 (drop 1 words))
  pub in_range : InRange r words values
  pub size : length values ≡ max_parameters

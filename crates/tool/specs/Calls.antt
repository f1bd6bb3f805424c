-- What a command line asks for: the words after the tool's name, read one after another.
use Rattle.std.specs.Prelude.{Option, Some, None, Bool, ◌&&◌, cond, List, [], ◌∷◌, ℕ, ◌+◌, leb, length, get_or}
use Rattle.tool.specs.declared.Row.{Row}
use Rattle.tool.specs.Verbs.{is_hidden, row_named, parameter_in}

-- the numbers that words stand for, or the place of the first that stands for none
pub data Numbers : Type 0 where
  all : List ℕ → Numbers
  stopped : ℕ → Numbers

abbrev pub prepend_parsed : Option ℕ → ℕ → Numbers → Numbers
prepend_parsed None place rest = stopped place
prepend_parsed (Some n) place (all values) = all (n ∷ values)
prepend_parsed (Some n) place (stopped other) = stopped other

-- from a place on
unfoldable pub numbers_from : Row → ℕ → List (List ℕ) → Numbers
numbers_from row place [] = all []
numbers_from row place (word ∷ words) = prepend_parsed (parameter_in row place word) place (numbers_from row (place + 1) words)

pub data Asked : Type 0 where
  no_word : Asked
  no_verb : List ℕ → Asked
  -- the verb's name and its row, and how many parameters came
  wrong_count : List ℕ → Row → ℕ → Asked
  -- a word that isn't read, the verb's row, and its place among the parameters
  unread : List ℕ → Row → ℕ → Asked
  known : Row → List ℕ → Asked

abbrev pub takes : Row → ℕ → Bool
takes row count = leb row.least count && leb count row.most

-- a verb with its parameters, or the first of them that isn't read
abbrev pub with_numbers : Row → List (List ℕ) → Numbers → Asked
with_numbers row parameters (all values) = known row values
with_numbers row parameters (stopped place) = unread (get_or parameters place []) row place

-- by the row of the first word, where it has one, that word, and those behind it
abbrev pub asked_of : Bool → Option Row → List ℕ → List (List ℕ) → Asked
asked_of in_script None name parameters = no_verb name
asked_of in_script (Some row) name parameters =
    cond (is_hidden in_script row.verb) (no_verb name)
    (cond (takes row (length parameters)) (with_numbers row parameters (numbers_from row 0 parameters)) (wrong_count name row (length parameters)))

unfoldable pub asked_by : Bool → List (List ℕ) → Asked
asked_by in_script [] = no_word
asked_by in_script (name ∷ parameters) = asked_of in_script (row_named name) name parameters

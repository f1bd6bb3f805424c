-- One line for each verb that only a script has, and what it leaves and prints, computed from the definitions. Two words, 7 and 8, are at
-- hand behind a tape of one word, 3.
use mathlib.Core.Path.{◌≡◌, refl}
use mathlib.Core.List.{List, [], ◌∷◌}
use Prim.Native.Nat.{ℕ}
use Prim.Native.String.{String}
use Rattle.text.specs.Text.{ascii, decimal_within, decimal, line}
use Rattle.text.specs.Reading.{digit_of, all_digits, value_from, number_from, in_base, is_hexadecimal, parse_number, split_words}
use Rattle.program.specs.Same.{same_words}
use Rattle.tool.specs.Verbs.{entries, names, rows, index_in, row_named, parameter_in}
use Rattle.tool.specs.Calls.{numbers_from, asked_by}
use Rattle.scripting.specs.Script.{State, Done, max_tapes, at_hand, with_tape, in_script, commanded, command_done, equals_in, line_done}

abbrev pub at_hand_lem : State
at_hand_lem = record { tapes = 3 ∷ 7 ∷ 8 ∷ []; begin = 1; room = [] }

-- what a line leaves of the tapes, where the tape at hand begins, the room, and what it prints
pub record Example : Type 0 where
  pub given : Done
  pub said : Done

abbrev leaves : String → List ℕ → ℕ → List ℕ → String → Example
leaves line tapes begin room text =
    record {
      given = line_done max_tapes (ascii line) at_hand_lem;
      said = record { state = record { tapes = tapes; begin = begin; room = room }; text = ascii text };
    }

abbrev pub examples : List Example
examples =
    leaves "tape 9" (3 ∷ 9 ∷ []) 1 [] "1\n"
    ∷ leaves "append 9" (3 ∷ 7 ∷ 8 ∷ 9 ∷ []) 1 [] "3\n"
    ∷ leaves "change 1 9" (3 ∷ 7 ∷ 9 ∷ []) 1 [] "2\n"
    ∷ leaves "drop 1" (3 ∷ 7 ∷ []) 1 [] "1\n"
    ∷ leaves "behind" (3 ∷ 7 ∷ 8 ∷ []) 3 [] "0\n"
    ∷ leaves "room 9" (3 ∷ 7 ∷ 8 ∷ []) 1 (9 ∷ []) "9\n"
    ∷ []

-- every row of a table holds
abbrev pub AllHold : List Example → Type 0
AllHold [] = Unit {0}
AllHold (row ∷ table) = (row.given ≡ row.said) × AllHold table

pub examples_hold : AllHold examples
unfolding line_done equals_in command_done commanded in_script with_tape at_hand split_words asked_by numbers_from parameter_in row_named index_in names rows entries digit_of all_digits value_from number_from in_base is_hexadecimal parse_number same_words decimal_within decimal line
examples_hold = (refl, (refl, (refl, (refl, (refl, (refl, tt))))))

-- What a script prints: a fold over its lines, whose state is a row of tapes, where the tape at hand begins in it, and a room.
use Rattle.std.specs.Prelude.{Bool, true, false, ◌&&◌, cond, List, [], ◌∷◌, ◌++◌, map, ℕ, suc, ◌+◌, ◌-◌, leb, ltb, eqb, length, take, drop, set, replicate}
use Prim.Native.Char.{code}
use Rattle.refusal.specs.Outcomes.{Outcome, refused, answered}
use Rattle.text.specs.Text.{ascii, decimal, blank, newline, number_line, numbers_line}
use Rattle.text.specs.Reading.{split_words}
use Rattle.fibonacci.specs.Services.{places_outcome, places_buffer}
use Rattle.encoding.specs.Encoding.{bytes_of}
use Rattle.named.specs.Named.{named_words}
use Rattle.program.specs.Services.{build_outcome, build_buffer}
use Rattle.program.specs.Same.{same_words}
use Rattle.listing.specs.Listing.{listing_answer, listing_buffer}
use Rattle.tool.specs.declared.TapeVerb.{TapeVerb}
use Rattle.tool.specs.declared.TapeVerb.TheVariants.{Check, Listing, Load, Run, SingleStep, Preview, Power, Raise, Trace, Table, Cut, Play}
use Rattle.tool.specs.declared.NumberVerb.{NumberVerb}
use Rattle.tool.specs.declared.NumberVerb.TheVariants.{Decode, Fibonacci, Places, NumberOf, Hofstadter, Inverse, Height, Prime, MulMod, PowMod}
use Rattle.tool.specs.declared.ScriptVerb.{ScriptVerb}
use Rattle.tool.specs.declared.ScriptVerb.TheVariants.{Tape, Append, Change, Drop, Behind, Room}
use Rattle.tool.specs.declared.Verb.{Verb}
use Rattle.tool.specs.declared.Verb.TheVariants.{Build, Script, Help, Version, OnTape, OnNumbers, InScript}
use Rattle.tool.specs.declared.Row.{Row}
use Rattle.tool.specs.Calls.{Asked, no_word, no_verb, wrong_count, unread, known, asked_by}
use Rattle.tape.specs.Layout.{max_words}
use Rattle.tool.specs.Replies.{printed, at, reply_to}

-- ---- the state

pub record State : Type 0 where
  -- the tapes, one behind another, and where the last of them, the tape at hand, begins
  pub tapes : List ℕ
  pub begin : ℕ
  -- the room that build, places and list get; none where the list is empty
  pub room : List ℕ

abbrev pub start : State
start = record { tapes = []; begin = 0; room = [] }

unfoldable pub at_hand : State → List ℕ
at_hand s = drop s.begin s.tapes

-- what a line leaves and what it prints
pub record Done : Type 0 where
  pub state : State
  pub text : List ℕ

abbrev pub prints : State → List ℕ → Done
prints s text = record { state = s; text = text }

-- ---- the tape at hand

-- the most words of a row of tapes
abbrev pub max_tapes : ℕ
max_tapes = 4096

unfoldable pub full_line : ℕ → List ℕ
full_line capacity = ascii "fibexp: a row of tapes has at most " ++ decimal capacity ++ ascii " words" ++ newline ∷ []

abbrev pub no_word_line : List ℕ
no_word_line = ascii "fibexp: no such word in the tape" ++ newline ∷ []

-- another tape at hand, where the row of tapes has room for it
unfoldable pub with_tape : ℕ → State → List ℕ → List ℕ → Done
with_tape capacity s tape text =
    let tapes = take s.begin s.tapes ++ tape in
    cond (leb (length tapes) capacity) (prints (record { tapes = tapes; begin = s.begin; room = s.room }) text) (prints s (full_line capacity))

-- how many words it has then
abbrev pub edited : ℕ → State → List ℕ → Done
edited capacity s tape = with_tape capacity s tape (number_line (length tape))

unfoldable pub in_script : ℕ → ScriptVerb → List ℕ → State → Done
in_script capacity Tape v s = edited capacity s v
in_script capacity Append v s = edited capacity s (at_hand s ++ v)
in_script capacity Change v s = cond (ltb (at v 0) (length (at_hand s))) (edited capacity s (set (at_hand s) (at v 0) (at v 1))) (prints s no_word_line)
in_script capacity Drop v s = edited capacity s (take (length (at_hand s) - at v 0) (at_hand s))
in_script capacity Behind v s = prints (record { tapes = s.tapes; begin = length s.tapes; room = s.room }) (number_line 0)
in_script capacity Room v s = prints (record { tapes = s.tapes; begin = s.begin; room = take 1 v }) (numbers_line (take 1 v))

-- ---- build

-- the tape at hand is build's, where it isn't refused
abbrev pub built_as : {A : Type 0} → ℕ → State → Outcome A → List ℕ → List ℕ → List ℕ → Done
built_as capacity s (refused n) words refusal text = prints s refusal
built_as capacity s (answered x) words refusal text = with_tape capacity s words text

-- ---- in a room: what comes back, and the whole buffer, whose elements are 255 before the call

abbrev pub filled : ℕ → List ℕ
filled room = replicate room 255

-- into a row
unfoldable pub build_into : ℕ → List ℕ → ℕ → List ℕ → State → Done
build_into capacity row own v s =
    let outcome = build_outcome (at v 0) (at v 1) (at v 2) (at v 3) (length row) in
    let text = (printed own outcome number_line).text ++ numbers_line (build_buffer (at v 0) (at v 1) (at v 2) (at v 3) row) in
    built_as capacity s outcome (named_words (at v 0) (at v 1) (at v 2) (at v 3)) text text

unfoldable pub places_into : List ℕ → ℕ → List ℕ → List ℕ
places_into row own v = (printed own (places_outcome (at v 0) (length row)) number_line).text ++ numbers_line (places_buffer (at v 0) row)

unfoldable pub list_into : List ℕ → List ℕ → List ℕ
list_into row bytes =
    let listed = listing_answer bytes (length row) in
    numbers_line (listed.written ∷ listed.number ∷ []) ++ numbers_line (listing_buffer bytes row)

unfoldable pub build_in : ℕ → ℕ → ℕ → List ℕ → State → Done
build_in capacity room own v s = build_into capacity (filled room) own v s

unfoldable pub places_in : ℕ → ℕ → List ℕ → List ℕ
places_in room own v = places_into (filled room) own v

unfoldable pub list_in : ℕ → List ℕ → List ℕ
list_in room tape = list_into (filled room) (bytes_of tape)

-- ---- a command line

-- as the tool replies, on the tape at hand
abbrev pub replied : Asked → State → Done
replied asked s = prints s (reply_to asked true (at_hand s) s.tapes).text

-- a build that leaves its tape and prints its words
unfoldable pub build_line : ℕ → ℕ → List ℕ → State → Done
build_line capacity own v s =
    let words = named_words (at v 0) (at v 1) (at v 2) (at v 3) in
    let outcome = build_outcome (at v 0) (at v 1) (at v 2) (at v 3) max_words in
    built_as capacity s outcome words (printed own outcome number_line).text (numbers_line words)

-- places and list look at the room
abbrev pub is_places : NumberVerb → Bool
is_places Places = true
is_places Decode = false
is_places Fibonacci = false
is_places NumberOf = false
is_places Hofstadter = false
is_places Inverse = false
is_places Height = false
is_places Prime = false
is_places MulMod = false
is_places PowMod = false

abbrev pub is_listing : TapeVerb → Bool
is_listing Listing = true
is_listing Check = false
is_listing Load = false
is_listing Run = false
is_listing SingleStep = false
is_listing Preview = false
is_listing Power = false
is_listing Raise = false
is_listing Trace = false
is_listing Table = false
is_listing Cut = false
is_listing Play = false

abbrev pub places_line : List ℕ → Row → List ℕ → State → Done
places_line [] row v s = replied (known row v) s
places_line (room ∷ more) row v s = prints s (places_in room row.own v)

abbrev pub list_line : List ℕ → Row → List ℕ → State → Done
list_line [] row v s = replied (known row v) s
list_line (room ∷ more) row v s = prints s (list_in room (at_hand s))

-- so does build
abbrev pub build_by : ℕ → List ℕ → ℕ → List ℕ → State → Done
build_by capacity [] own v s = build_line capacity own v s
build_by capacity (room ∷ more) own v s = build_in capacity room own v s

-- what a verb does with its parameters: any other replies as in the tool
abbrev pub by_verb : ℕ → Verb → Row → List ℕ → State → Done
by_verb capacity (InScript verb) row v s = in_script capacity verb v s
by_verb capacity Build row v s = build_by capacity s.room row.own v s
by_verb capacity (OnNumbers verb) row v s = cond (is_places verb) (places_line s.room row v s) (replied (known row v) s)
by_verb capacity (OnTape verb) row v s = cond (is_listing verb) (list_line s.room row v s) (replied (known row v) s)
by_verb capacity Script row v s = replied (known row v) s
by_verb capacity Help row v s = replied (known row v) s
by_verb capacity Version row v s = replied (known row v) s

unfoldable pub commanded : ℕ → Asked → State → Done
commanded capacity (known row v) s = by_verb capacity row.verb row v s
commanded capacity no_word s = replied no_word s
commanded capacity (no_verb word) s = replied (no_verb word) s
commanded capacity (wrong_count name row given) s = replied (wrong_count name row given) s
commanded capacity (unread word row place) s = replied (unread word row place) s

-- ---- a line

-- its words have a blank between, where the tool's arguments have a zero byte
abbrev pub arguments_of : List ℕ → List ℕ
arguments_of line = map (λ (b : ℕ). cond (eqb b blank) 0 b) line

unfoldable pub command_done : ℕ → List ℕ → State → Done
command_done capacity line s = commanded capacity (asked_by true (split_words (arguments_of line))) s

-- a blank, an equals sign and a blank
abbrev pub is_equals : List ℕ → Bool
is_equals (a ∷ b ∷ c ∷ line) = eqb a blank && eqb b (code "=") && eqb c blank
is_equals [] = false
is_equals (a ∷ []) = false
is_equals (a ∷ b ∷ []) = false

-- where they first stand; past the line, where they don't
unfoldable pub equals_in : List ℕ → ℕ
equals_in [] = 0
equals_in (b ∷ line) = cond (is_equals (b ∷ line)) 0 (suc (equals_in line))

-- whether what was printed is what was said
unfoldable pub verdict : List ℕ → List ℕ → List ℕ
verdict text said = ascii "= " ++ said ++ cond (same_words text (said ++ newline ∷ [])) (ascii ": yes") (ascii ": no") ++ newline ∷ []

abbrev pub judged : Done → List ℕ → Done
judged done said = prints done.state (done.text ++ verdict done.text said)

-- the most bytes of a line
abbrev pub max_line : ℕ
max_line = 4095

abbrev pub long_line : List ℕ
long_line = ascii "fibexp: a line of more than 4095 bytes" ++ newline ∷ []

-- a line that is copied: an empty one, or one that begins with #
abbrev pub is_copied : List ℕ → Bool
is_copied [] = true
is_copied (b ∷ line) = eqb b (code "#")

-- a line, by what it is
unfoldable pub line_done : ℕ → List ℕ → State → Done
line_done capacity line s =
    cond (ltb max_line (length line)) (prints s long_line)
    (cond (is_copied line) (prints s (line ++ newline ∷ []))
    (cond (ltb (equals_in line) (length line)) (judged (command_done capacity (take (equals_in line) line) s) (drop (equals_in line + 3) line))
    (command_done capacity line s)))

-- no line prints more
abbrev pub max_printed : ℕ
max_printed = 65536

-- and no command line more than this, so that a verdict has room behind it
abbrev pub max_commanded : ℕ
max_commanded = 57344

-- ---- a script

unfoldable pub script_from : ℕ → List (List ℕ) → State → List ℕ
script_from capacity [] s = []
script_from capacity (line ∷ lines) s =
    let done = line_done capacity line s in
    done.text ++ script_from capacity lines done.state

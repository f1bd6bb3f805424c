-- The verbs: a row for each name.
use Rattle.std.specs.Prelude.{Option, Some, Bool, true, false, not, cond, List, [], ◌∷◌, map, ℕ, suc, eqb, ltb, length, slice_get}
use Prim.Native.String.{String}
use Rattle.text.specs.Text.{ascii}
use Rattle.text.specs.Reading.{parse_number}
use Rattle.named.specs.Named.{variant_names}
use Rattle.program.specs.Same.{same_words}
use Rattle.tool.specs.declared.TapeVerb.TheVariants.{Check, Listing, Load, Run, SingleStep, Preview, Power, Raise, Trace, Table, Cut, Play}
use Rattle.tool.specs.declared.NumberVerb.{NumberVerb}
use Rattle.tool.specs.declared.NumberVerb.TheVariants.{Decode, Fibonacci, Places, NumberOf, Hofstadter, Inverse, Height, Prime, MulMod, PowMod}
use Rattle.tool.specs.declared.ScriptVerb.{ScriptVerb}
use Rattle.tool.specs.declared.ScriptVerb.TheVariants.{Tape, Append, Change, Drop, Behind, Room}
use Rattle.tool.specs.declared.Verb.{Verb}
use Rattle.tool.specs.declared.Verb.TheVariants.{Build, Script, Help, Version, OnTape, OnNumbers, InScript}
use Rattle.tool.specs.declared.Row.{Row}

-- ---- the table

-- the most parameters of all, those of raise: above what the service takes, so that it is the service that refuses
abbrev pub max_parameters : ℕ
max_parameters = 66

-- the most of play, number, tape and append
abbrev pub max_numbers : ℕ
max_numbers = 64

-- the most elements of a buffer that a script gives
abbrev pub max_room : ℕ
max_room = 4096

abbrev pub largest8 : ℕ
largest8 = 255

abbrev pub largest32 : ℕ
largest32 = 4294967295

abbrev pub largest64 : ℕ
largest64 = 18446744073709551615

pub record Entry : Type 0 where
  pub name : List ℕ
  pub row : Row

-- a name, its verb, how many parameters it takes at least and at most, the largest number among them, and the refusal whose reason is
-- its own, 0 where there is none
abbrev pub entry : String → Verb → ℕ → ℕ → ℕ → ℕ → Entry
entry name verb least most largest own =
    record { name = ascii name; row = record { verb = verb; least = least; most = most; largest = largest; own = own } }

unfoldable pub entries : List Entry
entries =
    entry "build" Build 4 4 largest32 4
    ∷ entry "script" Script 0 0 largest32 0
    ∷ entry "help" Help 0 0 largest32 0
    ∷ entry "--help" Help 0 0 largest32 0
    ∷ entry "-h" Help 0 0 largest32 0
    ∷ entry "version" Version 0 0 largest32 0
    ∷ entry "--version" Version 0 0 largest32 0
    ∷ entry "check" (OnTape Check) 0 0 largest32 0
    ∷ entry "list" (OnTape Listing) 0 0 largest32 0
    ∷ entry "load" (OnTape Load) 1 1 largest32 0
    ∷ entry "run" (OnTape Run) 6 6 largest32 9
    ∷ entry "step" (OnTape SingleStep) 6 6 largest32 9
    ∷ entry "preview" (OnTape Preview) 6 6 largest32 9
    ∷ entry "power" (OnTape Power) 1 1 largest32 0
    ∷ entry "raise" (OnTape Raise) 0 max_parameters largest32 4
    ∷ entry "trace" (OnTape Trace) 1 1 largest32 0
    ∷ entry "table" (OnTape Table) 1 1 largest32 0
    ∷ entry "cut" (OnTape Cut) 2 2 largest32 10
    ∷ entry "play" (OnTape Play) 5 max_numbers largest32 0
    ∷ entry "decode" (OnNumbers Decode) 1 1 largest32 0
    ∷ entry "fibonacci" (OnNumbers Fibonacci) 1 1 largest32 13
    ∷ entry "places" (OnNumbers Places) 1 1 largest64 0
    ∷ entry "number" (OnNumbers NumberOf) 0 max_numbers largest8 12
    ∷ entry "hofstadter" (OnNumbers Hofstadter) 1 1 largest64 0
    ∷ entry "inverse" (OnNumbers Inverse) 2 2 largest32 2
    ∷ entry "height" (OnNumbers Height) 1 1 largest32 0
    ∷ entry "prime" (OnNumbers Prime) 1 1 largest32 0
    ∷ entry "mulmod" (OnNumbers MulMod) 3 3 largest32 0
    ∷ entry "powmod" (OnNumbers PowMod) 3 3 largest32 0
    ∷ entry "tape" (InScript Tape) 0 max_numbers largest32 0
    ∷ entry "append" (InScript Append) 0 max_numbers largest32 0
    ∷ entry "change" (InScript Change) 2 2 largest32 0
    ∷ entry "drop" (InScript Drop) 1 1 largest32 0
    ∷ entry "behind" (InScript Behind) 0 0 largest32 0
    ∷ entry "room" (InScript Room) 0 1 max_room 0
    ∷ []

unfoldable pub names : List (List ℕ)
names = map (λ (e : Entry). e.name) entries

unfoldable pub rows : List Row
rows = map (λ (e : Entry). e.row) entries

-- ---- a verb by its name

-- where a word stands in a list; past it, where it stands nowhere
unfoldable pub index_in : List ℕ → List (List ℕ) → ℕ
index_in word [] = 0
index_in word (one ∷ words) = cond (same_words word one) 0 (suc (index_in word words))

-- the row of the first name that is the word
unfoldable pub row_named : List ℕ → Option Row
row_named name = slice_get rows (index_in name names)

-- no verb here: one that only a script has
abbrev pub is_hidden : Bool → Verb → Bool
is_hidden in_script (InScript v) = not in_script
is_hidden in_script Build = false
is_hidden in_script Script = false
is_hidden in_script Help = false
is_hidden in_script Version = false
is_hidden in_script (OnTape v) = false
is_hidden in_script (OnNumbers v) = false

-- it takes a tape
abbrev pub takes_tape : Verb → Bool
takes_tape (OnTape v) = true
takes_tape Build = false
takes_tape Script = false
takes_tape Help = false
takes_tape Version = false
takes_tape (OnNumbers v) = false
takes_tape (InScript v) = false

-- it is a script
abbrev pub takes_lines : Verb → Bool
takes_lines Script = true
takes_lines Build = false
takes_lines Help = false
takes_lines Version = false
takes_lines (OnTape v) = false
takes_lines (OnNumbers v) = false
takes_lines (InScript v) = false

-- it gives a tape
abbrev pub gives_tape : Verb → Bool
gives_tape Build = true
gives_tape Script = false
gives_tape Help = false
gives_tape Version = false
gives_tape (OnTape v) = false
gives_tape (OnNumbers v) = false
gives_tape (InScript v) = false

-- the largest parameter that a verb can do with
abbrev pub limit_on : NumberVerb → ℕ
limit_on Decode = largest32
limit_on Fibonacci = largest32
limit_on Places = largest64
limit_on NumberOf = largest8
limit_on Hofstadter = largest64
limit_on Inverse = largest32
limit_on Height = largest32
limit_on Prime = largest32
limit_on MulMod = largest32
limit_on PowMod = largest32

abbrev pub limit_in : ScriptVerb → ℕ
limit_in Tape = largest32
limit_in Append = largest32
limit_in Change = largest32
limit_in Drop = largest32
limit_in Behind = largest32
limit_in Room = max_room

abbrev pub limit_of : Verb → ℕ
limit_of (OnNumbers v) = limit_on v
limit_of Build = largest32
limit_of Script = largest32
limit_of Help = largest32
limit_of Version = largest32
limit_of (OnTape v) = largest32
limit_of (InScript v) = limit_in v

-- ---- a parameter by its place

-- build's fourth parameter is a variant
abbrev pub is_variant : Verb → ℕ → Bool
is_variant Build place = eqb place 3
is_variant Script place = false
is_variant Help place = false
is_variant Version place = false
is_variant (OnTape v) place = false
is_variant (OnNumbers v) place = false
is_variant (InScript v) place = false

-- a variant, by its name or its number
unfoldable pub variant_in : List ℕ → Option ℕ
variant_in word =
    let variant = index_in word variant_names in
    cond (ltb variant (length variant_names)) (Some variant) (parse_number largest32 word)

unfoldable pub parameter_in : Row → ℕ → List ℕ → Option ℕ
parameter_in row place word = cond (is_variant row.verb place) (variant_in word) (parse_number row.largest word)

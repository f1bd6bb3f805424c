-- The texts of replies: results, refusals, and what is said of a command line that isn't understood.
use Rattle.std.specs.Prelude.{cond, List, [], ◌∷◌, ◌++◌, map, ℕ, eqb, ℤ, get_or, drop}
use Rattle.refusal.specs.Reasons.{reasons, own_reasons}
use Rattle.text.specs.Text.{ascii, decimal, whole, newline, line, number_line, numbers_line}
use Rattle.text.specs.Quoting.{quoted}
use Rattle.matrices.specs.Matrices.{Matrix}
use Rattle.tape.specs.declared.Step.{Step}
use Rattle.tape.specs.declared.Step.TheVariants.{Mul, Div, Swp}
use Rattle.tape.specs.declared.Decoded.{Decoded}
use Rattle.tape.specs.declared.Decoded.TheVariants.{Heading, P, R, K, Action, End, Bad}
use Rattle.machine.specs.Machine.{reg}
use Rattle.named.specs.Named.{last_variant, variant_names}
use Rattle.sequencer.specs.Records.{Record, row_of}
use Rattle.sequencer.specs.Previews.{Shown}
use Rattle.tool.specs.declared.Row.{Row}
use Rattle.tool.specs.Verbs.{is_variant}

-- ---- results

-- whole numbers, with a minus sign where they are negative
abbrev pub exponents_line : List ℤ → List ℕ
exponents_line values = line (map whole values)

-- the line of row i of a table
abbrev pub row_line : Matrix → ℕ → List ℕ
row_line m i = exponents_line (get_or m i [])

-- a line for each register
abbrev pub table_lines : Matrix → List ℕ
table_lines m = row_line m 0 ++ row_line m 1 ++ row_line m 2 ++ row_line m 3

-- a record: the four registers, then the position
abbrev pub record_line : Record → List ℕ
record_line s = numbers_line (row_of s)

-- a preview: the registers on a line, the counts on the next
abbrev pub preview_lines : Shown → List ℕ
preview_lines w = numbers_line w.registers ++ numbers_line w.counts

-- register 1 on a line of its own, and the record
abbrev pub power_lines : Record → List ℕ
power_lines s = number_line (reg s.registers 1) ++ record_line s

-- a word's meaning: its name and its numbers
abbrev pub step_meaning : Step → List ℕ
step_meaning (Mul target source) = line (ascii "mul" ∷ decimal target ∷ decimal source ∷ [])
step_meaning (Div target source) = line (ascii "div" ∷ decimal target ∷ decimal source ∷ [])
step_meaning (Swp target source) = line (ascii "swp" ∷ decimal target ∷ decimal source ∷ [])

abbrev pub meaning : Decoded → List ℕ
meaning (Heading variant) = line (ascii "heading" ∷ decimal variant ∷ [])
meaning (P n) = line (ascii "p" ∷ decimal n ∷ [])
meaning (R n) = line (ascii "r" ∷ decimal n ∷ [])
meaning (K n) = line (ascii "k" ∷ decimal n ∷ [])
meaning (Action step) = step_meaning step
meaning (End count) = line (ascii "end" ∷ decimal count ∷ [])
meaning Bad = line (ascii "none" ∷ [])

abbrev pub version_line : List ℕ
version_line = ascii "fibexp 3.0.0" ++ newline ∷ []

-- ---- refusals

-- what a refusal is given for; `own` is the number whose reason is the service's own
unfoldable pub reason_for : ℕ → ℕ → List ℕ
reason_for own n = cond (eqb n own) (get_or (map ascii own_reasons) n []) (get_or (map ascii reasons) n [])

unfoldable pub refusal_line : ℕ → ℕ → List ℕ
refusal_line own n = ascii "fibexp: refused " ++ decimal n ++ ascii ": " ++ reason_for own n ++ newline ∷ []

-- ---- complaints

unfoldable pub no_verb_line : List ℕ → List ℕ
no_verb_line word = ascii "fibexp: " ++ quoted word ++ ascii ": no such verb; fibexp help lists them" ++ newline ∷ []

-- how many parameters a verb takes
unfoldable pub from_text : ℕ → ℕ → List ℕ
from_text least most = cond (eqb least most) [] (decimal least ++ ascii " to ")

unfoldable pub count_text : ℕ → ℕ → List ℕ
count_text least most = from_text least most ++ decimal most ++ cond (eqb most 1) (ascii " parameter") (ascii " parameters")

unfoldable pub wrong_count_line : List ℕ → Row → ℕ → List ℕ
wrong_count_line name row given =
    ascii "fibexp: " ++ name ++ ascii " takes " ++ count_text row.least row.most ++ ascii ", " ++ decimal given ++ ascii " given" ++ newline ∷ []

-- names with a comma between
unfoldable pub listed : List (List ℕ) → List ℕ
listed [] = []
listed (name ∷ []) = name
listed (name ∷ next ∷ names) = name ++ ascii ", " ++ listed (next ∷ names)

-- the variants that build takes, by name and by number
unfoldable pub variants_text : List ℕ
variants_text = listed (drop 1 variant_names) ++ ascii " or 1 to " ++ decimal last_variant

-- a word that isn't read as the parameter of its place
unfoldable pub unread_text : Row → ℕ → List ℕ
unread_text row place =
    cond (is_variant row.verb place) (ascii ": no variant; " ++ variants_text) (ascii ": not a whole number from 0 to " ++ decimal row.largest)

unfoldable pub unread_line : List ℕ → Row → ℕ → List ℕ
unread_line word row place = ascii "fibexp: " ++ quoted word ++ unread_text row place ++ newline ∷ []

abbrev pub script_line : List ℕ
script_line = ascii "fibexp: script is a verb of the program fibexp alone" ++ newline ∷ []

-- texts with byte 10 after each
unfoldable pub lines : List (List ℕ) → List ℕ
lines [] = []
lines (text ∷ texts) = text ++ newline ∷ [] ++ lines texts

unfoldable pub usage : List ℕ
usage =
    lines
    (ascii "usage: fibexp VERB PARAMETER.."
    ∷ (ascii "  build P R K VARIANT    write a tape; VARIANT is " ++ variants_text)
    ∷ ascii "  script                 commands from standard input, one on a line"
    ∷ ascii "on the tape from standard input; a RECORD is C D E F POSITION, the registers and the position:"
    ∷ ascii "  check                  0 where the tape is accepted"
    ∷ ascii "  list                   the tape's listing"
    ∷ ascii "  load BASE              the record to start from"
    ∷ ascii "  run RECORD TO          the record at position TO"
    ∷ ascii "  step RECORD BACKWARD   the record one step on, or one step back where BACKWARD isn't 0"
    ∷ ascii "  preview RECORD TO      the registers at position TO, then the mul, div and swp steps on the way"
    ∷ ascii "  power BASE             load and run: register 1 (a named program's power), the record"
    ∷ ascii "  raise BASE..           each of up to 64 bases to the power k, by a named program"
    ∷ ascii "  trace POSITION         the four whole exponents"
    ∷ ascii "  table POSITION         the exponent of each start value in each register, a line for each register"
    ∷ ascii "  cut FIRST LAST         the words of the steps FIRST + 1 to LAST"
    ∷ ascii "  play RECORD REQUEST..  a list of runs, each BEGIN END TURN TO: the record at its end, each run's number"
    ∷ ascii "on numbers:"
    ∷ ascii "  decode WORD            what a tape's word means"
    ∷ ascii "  fibonacci I            the Fibonacci number of index I"
    ∷ ascii "  places N               the places of the Zeckendorf form of N, highest first"
    ∷ ascii "  number PLACE..         the number of these places"
    ∷ ascii "  hofstadter N           G(N)"
    ∷ ascii "  inverse K R            the inverse of K modulo R"
    ∷ ascii "  height R               the least h above 0 with R below phi^h"
    ∷ ascii "  prime N                1 where N is a prime, else 0"
    ∷ ascii "  mulmod A B M           A times B modulo M"
    ∷ ascii "  powmod A K M           A to the K modulo M"
    ∷ ascii "  help, version          this text; the version"
    ∷ [])

-- A tape's listing: its refusals, its lines, and what the service answers.
use Rattle.std.specs.Prelude.{List, [], ◌∷◌, ◌++◌, ℕ, ◌+◌, ◌*◌, length}
use Rattle.refusal.specs.declared.Refusal.TheVariants.{Length}
use Rattle.refusal.specs.Outcomes.{Outcome, Rule, refused, answered, outcome, ◌given_if◌, refusal_number, buffer_after}
use Rattle.tape.specs.declared.Step.{Step}
use Rattle.tape.specs.declared.Step.TheVariants.{Mul, Div, Swp}
use Rattle.tape.specs.declared.Header.{Header}
use Rattle.tape.specs.Layout.{max_steps, header_of, steps_of}
use Rattle.encoding.specs.Encoding.{tape_of, no_tape}
use Rattle.named.specs.Named.{variant_names, variant_name, longest}
use Rattle.program.specs.Services.{room_outcome, check_rules}
use Rattle.listing.specs.declared.Listed.{Listed}
use Rattle.text.specs.Text.{ascii, decimal, line}

-- ---- its refusals

-- bytes that are no tape are treated as refusal 6; then check's refusals
unfoldable pub listing_rules : List ℕ → List Rule
listing_rules bytes = (Length given_if no_tape bytes) ∷ check_rules (tape_of bytes)

-- a refusal's number, else the tape's header
abbrev pub listing_outcome : List ℕ → Outcome Header
listing_outcome bytes = outcome (listing_rules bytes) (header_of (tape_of bytes))

-- 0 where the tape is accepted
abbrev pub listing_number : List ℕ → ℕ
listing_number bytes = refusal_number (listing_outcome bytes)

-- ---- its lines

-- a refusal prints its number
abbrev pub refused_line : ℕ → List ℕ
refused_line n = line (ascii "refused" ∷ decimal n ∷ [])

-- the variant's name, p, r, k and the step count, the numbers behind their labels
abbrev pub first_line : Header → List ℕ
first_line h =
    line
    (variant_name h.variant
    ∷ (ascii "p=" ++ decimal h.modulus)
    ∷ (ascii "r=" ++ decimal h.order)
    ∷ (ascii "k=" ++ decimal h.exponent)
    ∷ (ascii "steps=" ++ decimal h.steps)
    ∷ [])

-- a step's number, its name, target and source
abbrev pub named_line : ℕ → List ℕ → ℕ → ℕ → List ℕ
named_line n name target source = line (decimal n ∷ name ∷ decimal target ∷ decimal source ∷ [])

abbrev pub step_line : ℕ → Step → List ℕ
step_line n (Mul target source) = named_line n (ascii "mul") target source
step_line n (Div target source) = named_line n (ascii "div") target source
step_line n (Swp target source) = named_line n (ascii "swp") target source

-- steps numbered from n on
unfoldable pub step_lines : ℕ → List Step → List ℕ
step_lines n [] = []
step_lines n (x ∷ steps) = step_line n x ++ step_lines (n + 1) steps

abbrev pub lines_for : Outcome Header → List Step → List ℕ
lines_for (refused n) steps = refused_line n
lines_for (answered h) steps = first_line h ++ step_lines 1 steps

-- the bytes of the listing
unfoldable pub listing_of : List ℕ → List ℕ
listing_of bytes = lines_for (listing_outcome bytes) (steps_of (tape_of bytes))

-- no listing is longer (`listing_most` of Laws/Lengths): 47 bytes and a variant's name for the first line, 12 for each step
abbrev pub max_written : ℕ
max_written = 47 + longest variant_names + max_steps * 12

-- ---- the service, into a row that is lent

-- 5 where the row is shorter than the listing, else the listing's number beside the count of its bytes
abbrev pub listed_as : Outcome ℕ → ℕ → Listed
listed_as (refused n) number = record { written = 0; number = n }
listed_as (answered count) number = record { written = count; number = number }

unfoldable pub listing_answer : List ℕ → ℕ → Listed
listing_answer bytes room = listed_as (room_outcome (listing_of bytes) room) (listing_number bytes)

-- and the row at exit
unfoldable pub listing_buffer : List ℕ → List ℕ → List ℕ
listing_buffer bytes row = buffer_after (room_outcome (listing_of bytes) (length row)) (listing_of bytes) row

-- How long a listing is: at most 47 bytes and a variant's name for the first line and 12 for each of as many steps as a tape can have, so
-- that a row of that length is never too short; and never empty, so that a count of 0 says that there was no room.
use mathlib.Core.Path.{◌≡◌, refl, sym, ap, ◌∙◌}
use mathlib.Core.List.{List, [], ◌∷◌, ◌++◌}
use Prim.Native.Nat.{ℕ, ◌+◌, ◌*◌, ◌≤◌, ◌<◌}
use native.Mathlib.Decide.{dec_lt}
use native.Mathlib.Omega.{arith}
use lib.ListN.{length, drop, length-append}
use Rattle.refusal.specs.Outcomes.{Outcome, refused, answered, after}
use Rattle.refusal.proofs.Laws.Rules.{refused_range}
use Rattle.tape.specs.declared.Step.{Step}
use Rattle.tape.specs.declared.Step.TheVariants.{Mul, Div, Swp}
use Rattle.tape.specs.declared.Header.{Header}
use Rattle.tape.specs.Steps.{Distinct, Sound, AllSound}
use Rattle.tape.specs.Layout.{step_words_of, header_of, steps_of}
use Rattle.tape.proofs.Laws.Reading.{length_most}
use Rattle.tape.proofs.Laws.Rows.{all_steps_sound}
use Rattle.tape.proofs.Laws.Layout.{HeaderFits, steps_count, header_fits_lem}
use Rattle.encoding.specs.Encoding.{tape_of, tape_in}
use Rattle.named.specs.Named.{variant_names, variant_name, longest}
use Rattle.named.proofs.Laws.Names.{longest_most}
use Rattle.program.specs.Services.{room_outcome, check_rules, accept_outcome}
use Rattle.program.proofs.Laws.Building.{short, enough}
use Rattle.program.proofs.Laws.Checking.{accepted, header_is}
use Rattle.text.specs.Text.{ascii, decimal, line}
use Rattle.listing.specs.declared.Listed.{Listed}
use Rattle.listing.specs.Listing.{listing_outcome, refused_line, first_line, named_line, step_line, step_lines, lines_for, listing_number, listing_of, listing_answer, max_written}
use Rattle.text.proofs.Laws.Decimal.{decimal_length}
use Rattle.text.proofs.Laws.Lines.{line_length}
use Rattle.listing.proofs.Laws.Cases.{listing_lines, ListingContract, row_enough}

line_some : (w : List ℕ) (words : List (List ℕ)) → 1 ≤ length (line (w ∷ words))
line_some w words = omega (arith, line_length w words)

-- ---- refusals

refused_most : (n : ℕ) → n ≤ 14 → length (refused_line n) ≤ 11
refused_most n h = omega (arith, line_length (ascii "refused") (decimal n ∷ []), decimal_length 1 n (omega arith))

-- ---- the first line

first_most : (h : Header) → HeaderFits h → h.steps < 1000 → length (first_line h) ≤ 47 + longest variant_names
first_most h fits n =
    let words = (ascii "p=" ++ decimal h.modulus) ∷ (ascii "r=" ++ decimal h.order) ∷ (ascii "k=" ++ decimal h.exponent) ∷ (ascii "steps=" ++ decimal h.steps) ∷ [] in
    omega (
      arith,
      line_length (variant_name h.variant) words,
      longest_most variant_names h.variant,
      decimal_length 8 h.modulus (omega arith),
      decimal_length 8 h.order (omega arith),
      decimal_length 8 h.exponent (omega arith),
      decimal_length 2 h.steps n,
    )

-- ---- the steps' lines

named_most : (n : ℕ) (name : List ℕ) (t s : ℕ) → n < 1000 → length name ≡ 3 → Distinct t s → length (named_line n name t s) ≤ 12
named_most n name t s small three a =
    omega
    (arith, line_length (decimal n) (name ∷ decimal t ∷ decimal s ∷ []), decimal_length 2 n small, decimal_length 0 t (omega arith), decimal_length 0 s (omega arith))

step_most : (n : ℕ) (x : Step) → n < 1000 → Sound x → length (step_line n x) ≤ 12
step_most n (Mul t s) small sound = named_most n (ascii "mul") t s small refl sound
step_most n (Div t s) small sound = named_most n (ascii "div") t s small refl sound
step_most n (Swp t s) small sound = named_most n (ascii "swp") t s small refl sound.0

steps_most : (n : ℕ) (steps : List Step) → n + length steps ≤ 1000 → AllSound steps → length (step_lines n steps) ≤ 12 * length steps
unfolding step_lines
steps_most n [] h sound = omega arith
steps_most n (x ∷ steps) h sound =
    omega (arith, length-append (step_line n x) (step_lines (n + 1) steps), step_most n x (omega arith) sound.0, steps_most (n + 1) steps (omega arith) sound.1)

-- ---- the listing

accepted_most : (tape : List ℕ) (h : Header) → accept_outcome tape ≡ answered h → length (first_line h ++ step_lines 1 (steps_of tape)) ≤ max_written
accepted_most tape h e =
    let passed = accepted (header_of tape) tape e in
    let most = length_most tape passed.long in
    let count = steps_count tape in
    rw (header_is tape h e)
    (omega (
      arith,
      length-append (first_line (header_of tape)) (step_lines 1 (steps_of tape)),
      first_most (header_of tape) (header_fits_lem tape passed.laid) (omega arith),
      steps_most 1 (steps_of tape) (omega arith) (all_steps_sound (step_words_of tape)),
    ))

lines_most : (tape : List ℕ) (o : Outcome Header) → accept_outcome tape ≡ o → length (lines_for o (steps_of tape)) ≤ max_written
lines_most tape (refused n) e = omega (arith, refused_most n (refused_range (check_rules tape) (header_of tape) e).1)
lines_most tape (answered h) e = accepted_most tape h e

-- of a tape's words
pub tape_listing_most : (tape : List ℕ) → length (lines_for (accept_outcome tape) (steps_of tape)) ≤ max_written
tape_listing_most tape = lines_most tape (accept_outcome tape) refl

-- and of bytes
pub listing_most : (bytes : List ℕ) → length (listing_of bytes) ≤ max_written
listing_most bytes = rw listing_lines (tape_listing_most (tape_in bytes))

-- refusal 5 is never given into a row of that length
pub never_short : (bytes row : List ℕ) → max_written ≤ length row
    → ListingContract bytes row (record { written = length (listing_of bytes); number = listing_number bytes }) (listing_of bytes ++ drop (length (listing_of bytes)) row)
never_short bytes row h = row_enough bytes row (omega (arith, listing_most bytes))

-- ---- what was written

-- no listing is empty
lines_some : (o : Outcome Header) (steps : List Step) → 1 ≤ length (lines_for o steps)
lines_some (refused n) steps = line_some _ _
lines_some (answered h) steps = let first : 1 ≤ length (first_line h) = line_some _ _ in omega (arith, length-append (first_line h) (step_lines 1 steps))

-- so a count of 0 says that there was no room, and then a place for the count holds what it held
module _ (bytes : List ℕ) (room held : ℕ) (l : Listed) (e : l ≡ listing_answer bytes room) where
  written_is : length (listing_of bytes) ≤ room → l.written ≡ length (listing_of bytes)
  unfolding listing_answer
  written_is h = ap (λ (x : Listed). x.written) e ∙ rw (enough (listing_of bytes) room h)

  not_written : room < length (listing_of bytes) → l.written ≡ 0
  unfolding listing_answer
  not_written h = ap (λ (x : Listed). x.written) e ∙ rw (short (listing_of bytes) room h)

  pub none_written : l.written ≡ 0 → after (room_outcome (listing_of bytes) room) held ≡ held
  unfolding listing_of
  none_written none = elim (dec_lt room (length (listing_of bytes))) [
    | yes h ↦ rw (short (listing_of bytes) room h)
    | no h ↦ absurd (omega (arith, written_is (omega arith), lines_some (listing_outcome bytes) (steps_of (tape_of bytes))))
  ]

  pub some_written : ¬ (l.written ≡ 0) → (after (room_outcome (listing_of bytes) room) held ≡ l.written) × (l.written ≤ max_written)
  some_written some = elim (dec_lt room (length (listing_of bytes))) [
    | yes h ↦ absurd (some (not_written h))
    | no h ↦ let is = written_is (omega arith) in (rw (enough (listing_of bytes) room (omega arith)) (sym is), omega (arith, listing_most bytes))
  ]

-- A listing by cases: what is no tape gets 6, else check decides; and the service by its room.
use mathlib.Core.Path.{◌≡◌, sym, ap, ap₂}
use mathlib.Core.List.{List, ◌++◌}
use Prim.Native.Nat.{ℕ, ◌≤◌, ◌<◌}
use native.Mathlib.Decide.{dec_lt}
use native.Mathlib.Omega.{arith}
use lib.ListN.{length, drop}
use Rattle.refusal.specs.Outcomes.{Outcome, outcome, row_kept, row_written}
use Rattle.refusal.proofs.Laws.Tests.{by_test}
use Rattle.tape.specs.Layout.{steps_of, is_length}
use Rattle.encoding.specs.Encoding.{no_tape, tape_in}
use Rattle.program.specs.Services.{accept_outcome, check_rules}
use Rattle.program.proofs.Laws.Building.{short, enough}
use Rattle.listing.specs.declared.Listed.{Listed}
use Rattle.listing.specs.Listing.{listing_rules, listing_outcome, listing_number, lines_for, listing_of, listed_as, listing_answer, listing_buffer}

module _ (bytes : List ℕ) where
  -- a tape of no words is refused with 6, as bytes are that are no tape
  pub listing_words : listing_outcome bytes ≡ accept_outcome (tape_in bytes)
  unfolding listing_rules tape_in outcome check_rules is_length
  listing_words =
      by_test (no_tape bytes)
      (λ no. rw no)
      (λ some. rw some)

  -- so the listing is that of the tape
  pub listing_lines : listing_of bytes ≡ lines_for (accept_outcome (tape_in bytes)) (steps_of (tape_in bytes))
  unfolding listing_of listing_rules tape_in outcome check_rules is_length
  listing_lines =
      by_test (no_tape bytes)
      (λ no. rw no)
      (λ some. rw some)

  -- ---- the service

  module _ (room : ℕ) where
    -- what is written fits the row
    pub written_fits : (l : Listed) → l ≡ listing_answer bytes room → l.written ≤ room
    unfolding listing_answer
    written_fits l e =
        elim (dec_lt room (length (listing_of bytes))) [
          | yes h ↦ rw (e, short (listing_of bytes) room h) (omega arith)
          | no h ↦ rw (e, enough (listing_of bytes) room (omega arith)) (omega arith)
        ]

  module _ (row : List ℕ) where
    -- what the service promises of its answer and of the row at exit
    abbrev pub ListingContract : Listed → List ℕ → Type 0
    ListingContract answer after = (answer ≡ listing_answer bytes (length row)) × (after ≡ listing_buffer bytes row)

    pub row_short : length row < length (listing_of bytes) → ListingContract (record { written = 0; number = 5 }) row
    unfolding listing_answer listing_buffer
    row_short h =
        let e = short (listing_of bytes) (length row) h in
        (ap (λ (o : Outcome ℕ). listed_as o (listing_number bytes)) (sym e), sym (row_kept (listing_of bytes) row e))

    pub row_enough : length (listing_of bytes) ≤ length row
        → ListingContract (record { written = length (listing_of bytes); number = listing_number bytes }) (listing_of bytes ++ drop (length (listing_of bytes)) row)
    unfolding listing_answer listing_buffer
    row_enough h =
        let e = enough (listing_of bytes) (length row) h in
        (ap (λ (o : Outcome ℕ). listed_as o (listing_number bytes)) (sym e), sym (row_written (listing_of bytes) row e))

pub listed_as_lem : (l : Listed) {written number : ℕ} → l.written ≡ written → l.number ≡ number → l ≡ record { written = written; number = number }
listed_as_lem l e f = ap₂ (λ (w n : ℕ). record { written = w; number = n }) e f

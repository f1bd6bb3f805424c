-- `list_bytes` meets its contract: the listing is that of the words that the bytes give.
use mathlib.Core.Path.{◌≡◌, sym, ap, ◌∙◌}
use mathlib.Core.List.{List}
use Prim.Native.Nat.{ℕ, ◌≤◌}
use native.Mathlib.Omega.{arith}
use lib.ListN.{length, take}
use lib.Seq.{length-take-le}
use Rattle.text.proofs.Laws.Puts.{put_taken, put_inside}
use Rattle.program.specs.Services.{accept_outcome}
use Rattle.refusal.specs.Outcomes.{refusal_number}
use Rattle.encoding.specs.Encoding.{tape_in}
use Rattle.encoding.proofs.Laws.Cases.{words_most}
use Rattle.listing.proofs.Laws.Cases.{listing_words, listing_lines}
use Rattle.lister.proofs.list_bytes.Goals as goal
use Rattle.lister.proofs.list_bytes.Goals.{After-tape_words-count}

-- the words that are read
read : (c : After-tape_words-count) → take c.tape_words-count.result c.tape_words-count.new.buffer ≡ tape_in c.args.bytes.now
read c = put_taken c.tape_words-count.ensures (words_most _)

fits : (c : After-tape_words-count) → c.tape_words-count.result ≤ length c.tape_words-count.new.buffer
fits c = put_inside c.tape_words-count.ensures (omega arith)

pub slice_bounds-tape-end : goal.slice_bounds-tape-end
slice_bounds-tape-end c = fits (goal.at.slice_bounds-tape-end c).After-tape_words-count

pub slice_bounds-list_tape-end : goal.slice_bounds-list_tape-end
slice_bounds-list_tape-end c = sym (length-take-le _ _ (fits (goal.at.slice_bounds-list_tape-end c).After-tape_words-count))

pub returns : goal.returns
returns c =
    let words = read (goal.at.returns c).After-tape_words-count in
    record {
      put = rw (listing_lines, ← words) c.list_tape.ensures.put;
      number_value = c.list_tape.ensures.number_value ∙ ap (λ (l : List ℕ). refusal_number (accept_outcome l)) words ∙ ap refusal_number (sym (listing_words _));
    }

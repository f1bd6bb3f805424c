-- `play` meets its contract: what the whole list leaves, record and numbers, is what the requests that are left make of the record and
-- the row so far. Both halves of demand 3 hold of what a list leaves.
use Rattle.std.proofs.Common.{◌≡◌, ◌*◌, ◌+◌, length}
use lib.Seq.{sets}
use Rattle.sequencer.specs.Records.{record_of}
use Rattle.sequencer.specs.Lists.{after_all, numbers_all, requests_of}
use Rattle.playing.proofs.play.Given as goal

abbrev pub invariant-loop-left : goal.invariant-loop-left
invariant-loop-left l =
    (4 * l.n + length l.left ≡ length l.requests)
    × (length l.numbers ≡ length l.initial.numbers)
    × (after_all (requests_of l.tapes l.left) (record_of l.after) ≡ after_all (requests_of l.tapes l.requests) (record_of l.initial.after))
    × (sets l.numbers l.n (numbers_all (requests_of l.tapes l.left) (record_of l.after)) ≡ sets l.initial.numbers 0 (numbers_all (requests_of l.tapes l.requests) (record_of l.initial.after)))

abbrev pub decreases-loop-left : goal.decreases-loop-left
decreases-loop-left l = length l.left

-- `play` meets its contract: what the whole list leaves, record and numbers, is what the requests that are left make of the record and
-- the row so far. Both halves of demand 3 hold of what a list leaves.
use Rattle.std.proofs.Common.{◌≡◌, ◌+◌, refl, sym, ap, ap₂, ◌∙◌, List, ℕ, get_or, set, length, take, drop, ◌-◌, length-drop, arith}
use lib.Seq.{sets}
use Rattle.std.proofs.lemmas.List.{take_all}
use Rattle.refusal.specs.Outcomes.{Outcome, refusal_number, after}
use Rattle.tape.specs.Layout.{part}
use Rattle.sequencer.specs.Records.{Record, record_of}
use Rattle.sequencer.specs.Services.{run_outcome}
use Rattle.sequencer.specs.Lists.{Request, after_all, numbers_all, requests_of}
use Rattle.sequencer.specs.Demand.{ChainEnds, RewindEnds}
use Rattle.sequencer.proofs.Laws.Requests.{after_next, after_last, numbers_next, numbers_last}
use Rattle.sequencer.proofs.Laws.Chains.{chain_ends_lem}
use Rattle.sequencer.proofs.Laws.Rewinds.{rewind_ends_lem}
use Rattle.playing.proofs.play.Goals as goal

said : (qs : List Request) (s last : Record) (row numbers : List ℕ) → last ≡ after_all qs s → numbers ≡ sets row 0 (numbers_all qs s)
    → (last ≡ after_all qs s) × ((numbers ≡ sets row 0 (numbers_all qs s)) × (ChainEnds qs s numbers last × RewindEnds qs s numbers last))
said qs s last row numbers e f = rw (e, f) (refl, (refl, (chain_ends_lem qs s row, rewind_ends_lem qs s row)))

-- the words behind a request
behind : (words : List ℕ) → take (length words - 4) (drop 4 words) ≡ drop 4 words
behind words = take_all _ _ (omega (arith, length-drop 4 words))

pub loop-left-init : goal.loop-left-init
loop-left-init c = (omega arith, refl, refl, refl)

pub loop-left-preserved : goal.loop-left-preserved
loop-left-preserved c =
    let tapes = c.args.tapes.now in
    let left = c.loop-left.left.now in
    let s = record_of c.loop-left.after in
    let tape = part tapes (get_or left 0 0) (get_or left 1 0) in
    let answer = c.run_part-answer.ensures ∙ ap (λ (t : Record). run_outcome tape t (get_or left 3 0)) c.turned-given.ensures in
    let leaves = c.after_run-after.ensures ∙ ap₂ (λ (o : Outcome Record) (t : Record). after o t) answer c.turned-given.ensures in
    let number = c.note.ensures ∙ ap (λ (o : Outcome Record). set c.loop-left.numbers c.loop-left.n (refusal_number o)) answer in
    let some = c.in-len4-up.len_at_least in (
      omega (arith, ap length (behind left), length-drop 4 left, c.loop-left.invariant.0, some),
      c.note.auto.numbers ∙ c.loop-left.invariant.1,
      ap (λ (l : List ℕ). after_all (requests_of tapes l) (record_of c.after_run-after.result)) (behind left) ∙ after_next tapes left 0 s _ (omega arith) leaves ∙ c.loop-left.invariant.2,
      ap (λ (l : List ℕ). sets c.note.new.numbers (c.loop-left.n + 1) (numbers_all (requests_of tapes l) (record_of c.after_run-after.result))) (behind left) ∙ numbers_next tapes left 0 s _ (omega arith) _ _ c.loop-left.n leaves number ∙ c.loop-left.invariant.3,
    )

pub shape_of-numbers : goal.shape_of-numbers
shape_of-numbers c = c.loop-left.invariant.1

pub returns : goal.returns
returns c =
    let start = c.args in
    let at = c.loop-left in
    let tapes = start.tapes.now in
    let few = c.in_default.len_below in
    let s = record_of at.after in
    let both = said (requests_of tapes start.requests.now) (record_of start.state) _ start.numbers.now _
    (sym (after_last tapes at.left.now 0 s (omega arith)) ∙ at.invariant.2)
    (sym (numbers_last tapes at.left.now 0 s (omega arith) at.numbers at.n) ∙ at.invariant.3) in
    record { result_value = both.0; numbers_after = both.1.0; chain_ends = both.1.1.0; rewind_ends = both.1.1.1 }

-- `play` meets its contract: the parameters behind the record are the requests, and what the runs tell fits a row of as many places
-- as parameters.
use mathlib.Core.Path.{◌≡◌, sym, ap, ap₂, ◌∙◌}
use mathlib.Core.List.{List}
use Prim.Native.Nat.{ℕ, ◌≤◌}
use native.Mathlib.Omega.{arith}
use lib.ListN.{length, take, drop, length-drop}
use lib.Seq.{length-take-le}
use Rattle.refusal.proofs.Laws.Rows.{wrote_taken, wrote_length}
use Rattle.sequencer.specs.Records.{Record, record_in}
use Rattle.sequencer.specs.Lists.{requests_of}
use Rattle.tool.specs.Verbs.{max_parameters}
use Rattle.tool.specs.Replies.{runs_told}
use Rattle.tool.proofs.Laws.Runs.{runs_told_lem}
use Rattle.std.proofs.Common.{rules}
use Rattle.putting.proofs.Laws.Buffers.{puts_fresh}
use Rattle.tape_verbs.proofs.play.Goals as goal
use Rattle.tape_verbs.proofs.play.Goals.{After-past_record-requests, After-runs-length}

-- those behind the record are the requests, no more than the parameters
few : (c : After-past_record-requests) → length c.past_record-requests.result.now ≤ max_parameters
few c = omega (arith, ap length c.past_record-requests.ensures, length-drop 5 c.args.values.now)

pub runs-length-requires : goal.runs-length-requires
runs-length-requires c = omega (arith, few (goal.at.runs-length-requires c).After-past_record-requests)

-- the row has room for what is told, which stands at its front
module _ (c : After-runs-length) where
  abbrev values : List ℕ
  values = c.args.values.now

  abbrev tapes : List ℕ
  tapes = c.args.tapes.now

  size : c.runs-length.result ≤ max_parameters
  size = omega (arith, c.runs-length.ensures.value, ap length c.past_record-requests.ensures, length-drop 5 values)

  told : take c.runs-length.result c.runs-length.new.told ≡ runs_told (requests_of tapes (drop 5 values)) (record_in values)
  told =
      wrote_taken c.runs-length.ensures.wrote (omega (arith, size, c.runs-length.ensures.wrote.next_is))
      ∙ ap₂ (λ (ws : List ℕ) (s : Record). runs_told (requests_of tapes ws) s) c.past_record-requests.ensures c.record.ensures

  inside : c.runs-length.result ≤ length c.runs-length.new.told
  inside = omega (arith, wrote_length c.runs-length.ensures.wrote, size)

  counted : length (take c.runs-length.result c.runs-length.new.told) ≡ c.runs-length.result
  counted = length-take-le c.runs-length.result c.runs-length.new.told inside

pub slice_bounds-told-end : goal.slice_bounds-told-end
slice_bounds-told-end c = inside (goal.at.slice_bounds-told-end c).After-runs-length

pub slice_bounds-numbers_line-end : goal.slice_bounds-numbers_line-end
slice_bounds-numbers_line-end c = sym (counted (goal.at.slice_bounds-numbers_line-end c).After-runs-length)

pub returns : goal.returns
returns c =
    let runs = (goal.at.returns c).After-runs-length in
    let line = puts_fresh c.new-line.ensures c.numbers_line.ensures.put in
    runs_told_lem (values runs) (tapes runs) (told runs) (search rules) c.numbers_line.ensures.short (omega (arith, size runs, counted runs))

-- `perform_on_tape` meets its contract: the row has the parameters at 32 bits, and no more than a verb can have.
use mathlib.Core.Path.{◌≡◌, sym}
use mathlib.Core.List.{List}
use Prim.Native.Nat.{ℕ, ◌≤◌}
use native.Mathlib.Omega.{arith}
use lib.ListN.{length, take, length-take}
use lib.Seq.{take_all, length-take-le}
use Rattle.text.proofs.Laws.Puts.{put_front, put_inside}
use Rattle.tool.specs.Verbs.{largest32, max_parameters}
use Rattle.tool.specs.Inner.Held.{held_to}
use Rattle.command.proofs.perform_on_tape.Goals as goal
use Rattle.command.proofs.perform_on_tape.Goals.{After-words-count}

module _ (c : After-words-count) where
  abbrev values : List ℕ
  values = held_to largest32 c.args.values.now

  few : length (take max_parameters values) ≤ max_parameters
  few = omega (arith, length-take max_parameters values)

  -- the row's numbers are the parameters
  taken : take c.words-count.result c.words-count.new.row ≡ take max_parameters values
  taken = put_front c.words-count.ensures

  inside : c.words-count.result ≤ length c.words-count.new.row
  inside = put_inside c.words-count.ensures (omega arith)

pub slice_bounds-row-end : goal.slice_bounds-row-end
slice_bounds-row-end c = inside (goal.at.slice_bounds-row-end c).After-words-count

pub slice_bounds-on_tape-end : goal.slice_bounds-on_tape-end
slice_bounds-on_tape-end c = sym (length-take-le _ c.words-count.new.row (inside (goal.at.slice_bounds-on_tape-end c).After-words-count))

pub returns : goal.returns
returns c =
    let w = (goal.at.returns c).After-words-count in
    rw (taken w, take_all max_parameters (take max_parameters (values w)) (few w)) at c.on_tape.ensures

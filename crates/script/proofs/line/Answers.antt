-- `line` meets its contract: the words that are used are a row of their own, and the others stand as they did.
use mathlib.Core.Path.{sym}
use Prim.Native.Nat.{ℕ}
use native.Mathlib.Omega.{arith}
use lib.Seq.{length-take-le}
use Rattle.scripting.specs.Script.{State, line_done}
use Rattle.scripting.proofs.Laws.Used.{inside_used, did_used}
use Rattle.script.proofs.line.Goals as goal

pub slice_bounds-done-end-2 : goal.slice_bounds-done-end-2
slice_bounds-done-end-2 c = sym (length-take-le c.min-capacity.result c.args.tapes.now (omega (arith, c.min-capacity.ensures)))

pub done-requires : goal.done-requires
done-requires c =
    inside_used c.args.marks c.args.tapes.now c.min-capacity.ensures c.inside.ensures

pub returns : goal.returns
returns c = let both = did_used c.args.marks c.args.tapes.now c.min-capacity.ensures c.inside.ensures (λ (capacity : ℕ) (state : State). line_done capacity c.args.line.now state)
    c.done.auto.tapes c.done.ensures in record { did_line = both.0; tapes_unchanged = both.1 }

-- `edit` meets its contract: the words that are used are a row of their own, and the others stand as they did.
use mathlib.Core.Path.{sym}
use Prim.Native.Nat.{ℕ}
use native.Mathlib.Omega.{arith}
use lib.Seq.{length-take-le}
use Rattle.tool.specs.Verbs.{limit_in}
use Rattle.scripting.specs.Script.{State, in_script}
use Rattle.tool.specs.Inner.Held.{held_to}
use Rattle.scripting.proofs.Laws.Used.{inside_used, did_used}
use Rattle.edits.proofs.edit.Goals as goal

pub slice_bounds-edit_inside-end-2 : goal.slice_bounds-edit_inside-end-2
slice_bounds-edit_inside-end-2 c = sym (length-take-le c.min-capacity.result c.args.tapes.now (omega (arith, c.min-capacity.ensures)))

pub edit_inside-requires : goal.edit_inside-requires
edit_inside-requires c =
    inside_used c.args.marks c.args.tapes.now c.min-capacity.ensures c.inside.ensures

pub returns : goal.returns
returns c =
    let both = did_used c.args.marks c.args.tapes.now c.min-capacity.ensures c.inside.ensures (λ (capacity : ℕ) (state : State). in_script capacity c.args.verb (held_to (limit_in c.args.verb) c.args.values.now) state)
    c.edit_inside.auto.tapes c.edit_inside.ensures in
    record { did = both.0; tapes_unchanged = both.1 }

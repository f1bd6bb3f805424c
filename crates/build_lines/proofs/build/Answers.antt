-- `build` meets its contract: the words that are used are a row of their own, and the others stand as they did.
use mathlib.Core.Path.{sym}
use Prim.Native.Nat.{ℕ}
use native.Mathlib.Omega.{arith}
use lib.Seq.{length-take-le}
use Rattle.tool.specs.Verbs.{largest32}
use Rattle.scripting.specs.Script.{State, build_by}
use Rattle.tool.specs.Inner.Held.{held_to}
use Rattle.scripting.proofs.Laws.Used.{inside_used, did_used}
use Rattle.build_lines.proofs.build.Goals as goal

pub slice_bounds-build_inside-end-2 : goal.slice_bounds-build_inside-end-2
slice_bounds-build_inside-end-2 c = sym (length-take-le c.min-capacity.result c.args.tapes.now (omega (arith, c.min-capacity.ensures)))

pub build_inside-requires : goal.build_inside-requires
build_inside-requires c =
    inside_used c.args.marks c.args.tapes.now c.min-capacity.ensures c.inside.ensures

pub returns : goal.returns
returns c =
    let both = did_used c.args.marks c.args.tapes.now c.min-capacity.ensures c.inside.ensures (λ (capacity : ℕ) (state : State). build_by capacity state.room c.args.own (held_to largest32 c.args.values.now) state)
    c.build_inside.auto.tapes c.build_inside.ensures in
    record { did = both.0; tapes_unchanged = both.1 }

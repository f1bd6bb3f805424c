-- `built` meets its contract: the words that are counted are left, or the refusal is printed.
use mathlib.Core.Path.{refl, sym}
use native.Mathlib.Omega.{arith}
use lib.ListN.{length-take}
use lib.Seq.{length-take-le}
use Rattle.scripting.proofs.Laws.Tapes.{did_print}
use Rattle.build_lines.proofs.built.Goals as goal

pub slice_bounds-leave-end : goal.slice_bounds-leave-end
slice_bounds-leave-end c = sym (length-take-le c.in-Ok.n c.args.row.now (rw c.in-Ok.is at c.requires.counted))

pub leave-requires : goal.leave-requires
leave-requires c = record { inside = c.requires.inside; short = omega (arith, length-take c.in-Ok.n c.args.row.now, c.requires.short) }

pub returns-in-Ok : goal.returns-in-Ok
returns-in-Ok c = rw c.in-Ok.is c.leave.ensures

pub returns-in-Err : goal.returns-in-Err
returns-in-Err c = rw (c.in-Err.is, ← c.from.ensures) (did_print _ c.requires.inside refl c.refuse.ensures.text (omega (arith, c.refuse.ensures.short)))

-- `do_steps` meets its contract: the steps that come after those done lead where all lead, and each turn does the first of them.
use Prim.Native.Nat.{◌-◌, ◌≤◌}
use lib.ListN.{length}
use Rattle.tape.specs.Inner.Operations.{raw_steps}
use Rattle.montgomery.specs.Inner.Forms.{form_times}
use Rattle.machine.specs.Inner.Carried.{directed_steps}
use Rattle.register_steps.specs.Inner.Ways.{steps_after}
use Rattle.register_steps.proofs.Laws.Going.{Going}
use Rattle.register_steps.proofs.do_steps.Given as goal

abbrev pub invariant-loop-i : goal.invariant-loop-i
invariant-loop-i l =
    (l.i ≤ length l.words) × Going (form_times l.m) (directed_steps l.undone (raw_steps l.words)) (steps_after l.undone l.words l.i) l.initial.values l.initial.inverses l.values l.inverses

abbrev pub decreases-loop-i : goal.decreases-loop-i
decreases-loop-i l = length l.words - l.i

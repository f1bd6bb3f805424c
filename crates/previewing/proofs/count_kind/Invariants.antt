-- `count_kind` meets its contract: what is counted so far and what is left come to the whole count.
use mathlib.Core.Path.{◌≡◌}
use Prim.Native.Nat.{◌+◌, ◌-◌, ◌≤◌}
use lib.ListN.{length, drop}
use Rattle.tape.specs.Inner.Operations.{raw_steps}
use Rattle.machine.specs.Ways.{count_where}
use Rattle.machine.specs.Inner.Kinds.{is_kind}
use Rattle.previewing.proofs.count_kind.Given as goal

abbrev pub invariant-loop-i : goal.invariant-loop-i
invariant-loop-i l =
    (l.i ≤ length l.words) × (l.n ≤ l.i) × (l.n + count_where (is_kind l.opcode) (drop l.i (raw_steps l.words)) ≡ count_where (is_kind l.opcode) (raw_steps l.words))

abbrev pub decreases-loop-i : goal.decreases-loop-i
decreases-loop-i l = length l.words - l.i

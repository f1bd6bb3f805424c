-- `shift_all` meets its contract: what the steps from the start come to is what those that are left make of the exponents so
-- far, which are in range; and the first that leaves the range decides.
use mathlib.Core.Path.{◌≡◌}
use lib.ListN.{length, drop}
use Rattle.tape.specs.Inner.Operations.{raw_steps}
use Rattle.machine.proofs.Laws.Traces.{RestOfTrace}
use Rattle.columns.proofs.shift_all.Given as goal

abbrev pub invariant-loop-word : goal.invariant-loop-word
invariant-loop-word l =
    (length l.exponents ≡ length l.initial.exponents) × RestOfTrace (raw_steps l.words) l.initial.exponents (drop l.word-index (raw_steps l.words)) l.exponents

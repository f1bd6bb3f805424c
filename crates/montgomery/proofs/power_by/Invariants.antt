-- `power_by` meets its contract: the loop's invariant is what repeated squaring keeps, and the measure is what is left of the exponent.
use Rattle.std.specs.Prelude.{◌<◌}
use Rattle.montgomery.specs.Inner.Forms.{word}
use Rattle.montgomery.proofs.Laws.Squaring.{Stands}
use Rattle.montgomery.proofs.power_by.Given as goal

abbrev pub invariant-loop-rest : goal.invariant-loop-rest
invariant-loop-rest g l = (l.result < word) × (l.square < word) × Stands (goal.P-post g l.product) l.one l.base l.exponent l.result l.square l.rest

abbrev pub decreases-loop-rest : goal.decreases-loop-rest
decreases-loop-rest g l = l.rest

-- `inverse_of` meets its contract. The loop's invariant is what Euclid's algorithm keeps, which also bounds the coefficients
-- by m, so that no product or difference overflows.
use Rattle.modular.proofs.Laws.Euclid.{Kept}
use Rattle.modular.proofs.inverse_of.Given as goal

abbrev pub invariant-loop-b : goal.invariant-loop-b
invariant-loop-b l = Kept l.x l.m l.a l.b l.s l.t

abbrev pub decreases-loop-b : goal.decreases-loop-b
decreases-loop-b l = l.b

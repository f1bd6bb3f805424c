-- `square_of` meets its contract: what 2^64 - 1 leaves is below p.
use mathlib.Core.Path.{sym, ap}
use Prim.Native.Nat.{ℕ, ◌+◌}
use native.Mathlib.Nat.{mod-lt}
use native.Mathlib.Omega.{arith}
use Rattle.modular.proofs.Laws.Residues.{remainder_is, remainder_zero}
use Rattle.montgomery.specs.Inner.Forms.{square_of}
use Rattle.montgomery.proofs.square_of.Goals as goal

pub returns-then-p-eq0 : goal.returns-then-p-eq0
unfolding square_of
returns-then-p-eq0 c = sym (ap (λ (n : ℕ). n + 1) (remainder_zero _ _ c.if-p-eq0.true))

pub overflow_cast-result-2 : goal.overflow_cast-result-2
overflow_cast-result-2 c = record { fits = omega (arith, mod-lt 18446744073709551615 {m = c.args.p} (omega arith)) }

pub overflow_add-result : goal.overflow_add-result
overflow_add-result c = record { fits = omega (arith, mod-lt 18446744073709551615 {m = c.args.p} (omega arith)) }

pub returns : goal.returns
unfolding square_of
returns c = sym (ap (λ (n : ℕ). n + 1) (remainder_is _ _ (omega arith)))

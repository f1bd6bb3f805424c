-- `product` meets its contract: the product of two 32-bit numbers fits 64 bits, and what it leaves modulo m is below m.
use mathlib.Core.Path.{sym}
use native.Mathlib.Nat.{lt_trans, mod-lt}
use native.Mathlib.Omega.{arith}
use Rattle.divisors.proofs.Laws.Quotients.{product_below}
use Rattle.modular.proofs.Laws.Residues.{remainder_zero, remainder_is}
use Rattle.modular.proofs.product.Goals as goal

pub returns-then-m-eq0 : goal.returns-then-m-eq0
returns-then-m-eq0 c = sym (remainder_zero _ _ c.if-m-eq0.true)

pub overflow_mul-result : goal.overflow_mul-result
overflow_mul-result c = record { fits = product_below 4294967296 (omega arith) (omega arith) }

pub overflow_cast-result : goal.overflow_cast-result
overflow_cast-result c = record { fits = lt_trans (mod-lt _ (omega arith)) (omega arith) }

pub returns : goal.returns
returns c = rw (c.from.ensures, c.from-2.ensures, c.from-3.ensures) (sym (remainder_is _ _ (omega arith)))

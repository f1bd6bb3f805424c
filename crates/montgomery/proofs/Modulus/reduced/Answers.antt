-- `reduced` meets its contract: the products are of two numbers below 2^32, and the multiple's high word is at most p.
use mathlib.Core.Path.{sym}
use native.Mathlib.Nat.{lt_of_le_of_lt}
use native.Mathlib.Omega.{arith}
use borrow.Author.Tests.{lt-ltb, le-ltb}
use Rattle.divisors.proofs.Laws.Quotients.{product_below}
use Rattle.montgomery.specs.Inner.Forms.{reduction}
use Rattle.montgomery.proofs.Laws.Forms.{multiple_most}
use Rattle.montgomery.proofs.Modulus.reduced.Goals as goal

pub overflow_mul-u : goal.overflow_mul-u
overflow_mul-u c = record { fits = product_below 4294967296 (omega arith) (omega arith) }

pub overflow_mul-multiple : goal.overflow_mul-multiple
overflow_mul-multiple c = record { fits = product_below 4294967296 (omega arith) (omega arith) }

pub overflow_cast-multiple-2 : goal.overflow_cast-multiple-2
overflow_cast-multiple-2 c = record { fits = lt_of_le_of_lt (multiple_most _ _ _) (omega arith) }

pub overflow_sub-result : goal.overflow_sub-result
overflow_sub-result c = multiple_most _ _ _

pub returns-then-high-multiple : goal.returns-then-high-multiple
unfolding reduction
returns-then-high-multiple c = sym (rw (lt-ltb _ _ c.if-high-multiple.true))

pub returns : goal.returns
unfolding reduction
returns c = sym (rw (le-ltb _ _ c.if-high-multiple.false))

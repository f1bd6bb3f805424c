-- `lifted` meets its contract: each product is of two numbers below 2^32.
use native.Mathlib.Omega.{arith}
use borrow.Author.Rules.{rules}
use Rattle.divisors.proofs.Laws.Quotients.{product_below}
use Rattle.montgomery.specs.Inner.Forms.{lift}
use Rattle.montgomery.proofs.lifted.Goals as goal

pub overflow_mul-unit : goal.overflow_mul-unit
overflow_mul-unit c = record { fits = product_below 4294967296 (omega arith) (omega arith) }

pub overflow_mul-result : goal.overflow_mul-result
overflow_mul-result c = record { fits = product_below 4294967296 (omega arith) (omega arith) }

pub returns : goal.returns
unfolding lift
returns c = search rules

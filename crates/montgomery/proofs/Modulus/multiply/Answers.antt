-- `multiply` meets its contract: the product of two 32-bit numbers fits 64 bits.
use native.Mathlib.Omega.{arith}
use Rattle.divisors.proofs.Laws.Quotients.{product_below}
use Rattle.montgomery.specs.Inner.Forms.{form_times}
use Rattle.montgomery.proofs.Modulus.multiply.Goals as goal

pub overflow_mul-x : goal.overflow_mul-x
overflow_mul-x c = record { fits = product_below 4294967296 (omega arith) (omega arith) }

pub returns : goal.returns
unfolding form_times
returns c = c.reduced.ensures

-- `carry` meets its contract: the product of two 16-bit numbers fits 32 bits, and its upper half 16.
use native.Mathlib.Nat.{div-lt_iff_lt-mul}
use native.Mathlib.Omega.{arith}
use Rattle.divisors.proofs.Laws.Quotients.{product_below}
use Rattle.divisors.proofs.carry.Goals as goal

pub overflow_mul-quotient : goal.overflow_mul-quotient
overflow_mul-quotient c = record { fits = product_below 65536 (omega arith) (omega arith) }

pub overflow_mul-result : goal.overflow_mul-result
overflow_mul-result c = record { fits = product_below 65536 (omega arith) (omega arith) }

pub overflow_cast-result-2 : goal.overflow_cast-result-2
overflow_cast-result-2 c = record { fits = (div-lt_iff_lt-mul {k = 65536} (omega arith)).1 (product_below 65536 (omega arith) (omega arith)) }

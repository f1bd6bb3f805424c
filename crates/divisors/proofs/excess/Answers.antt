-- `excess` meets its contract: it computes what `large_divided` speaks of.
use Prim.Native.Nat.{◌%◌}
use native.Mathlib.Omega.{arith}
use Rattle.divisors.specs.Inner.Inverted.{half_word}
use Rattle.divisors.proofs.Laws.Quotients.{carry_at_most, large_divided}
use Rattle.divisors.proofs.excess.Goals as goal

pub overflow_sub-rest : goal.overflow_sub-rest
overflow_sub-rest c =
    let a = c.args in
    omega (arith, c.carry.ensures, carry_at_most (a.p % half_word) a.inverse a.d)

pub returns : goal.returns
returns c =
    rw (c.carry-2.ensures, c.carry.ensures) (large_divided _ _ _ c.requires.p_lt_sum_limit c.requires.half_word_inverse)

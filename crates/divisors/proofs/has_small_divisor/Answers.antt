-- `has_small_divisor` meets its contract: 2 and 3 are tried by themselves, and the two parts of the table cover the odd numbers from 5 to
-- 4095 and from 4097 to 2^14, as antt computes. A p below 2^24 has its root among the first.
use Rattle.std.proofs.Common.{refl, sym, arith}
use Rattle.divisors.specs.Inner.Inverted.{NoneBelow}
use Rattle.divisors.proofs.Laws.Small.{small_test, none_told, small_told}
use Rattle.divisors.proofs.Laws.Inverses.{are_inverses, inverses}
use Rattle.divisors.proofs.Laws.Covering.{divided_by, covers, told_by_least, none_below_two, none_below_three, none_below_five, none_listed_lem, none_past_root}
use Rattle.divisors.proofs.has_small_divisor.Goals as goal
use Rattle.divisors.proofs.has_small_divisor.Goals.{Else-has_divisor_among}

pub returns-then-p-eq0 : goal.returns-then-p-eq0
returns-then-p-eq0 c = told_by_least _ 2 (omega arith) (omega arith) c.if-p-eq0.true (none_below_two _)

pub returns-then-p-eq0-2 : goal.returns-then-p-eq0-2
returns-then-p-eq0-2 c = told_by_least _ 3 (omega arith) (omega arith) c.if-p-eq0-2.true (none_below_three _ c.if-p-eq0.false)

pub has_divisor_among-requires : goal.has_divisor_among-requires
unfolding are_inverses
has_divisor_among-requires c = record { reach = record { above = omega arith; below = omega arith }; inverses = inverses _ _ refl }

pub returns-then-has_divisor_among : goal.returns-then-has_divisor_among
returns-then-has_divisor_among c = let s = c.has_divisor_among.ensures.some c.if-has_divisor_among.true in sym (small_test _ s.0 s.1)

-- neither 2 nor 3 nor a number of the first part divides p
none_below_4097 : (c : Else-has_divisor_among) → NoneBelow c.args.p 4097
unfolding covers divided_by
none_below_4097 c =
    none_listed_lem _ c.if-p-eq0.false 2046 5 c.has_divisor_among.ensures c.if-has_divisor_among.false refl (omega arith)
    (none_below_five _ c.if-p-eq0.false c.if-p-eq0-2.false)

pub returns-then-p-lt16777216 : goal.returns-then-p-lt16777216
returns-then-p-lt16777216 c =
    none_told _ (none_past_root _ 4097 (omega arith) (none_below_4097 (goal.at.returns-then-p-lt16777216 c).Else-has_divisor_among))

pub has_divisor_among-requires-2 : goal.has_divisor_among-requires-2
unfolding are_inverses
has_divisor_among-requires-2 c = record { reach = record { above = omega arith; below = omega arith }; inverses = inverses _ _ refl }

pub returns : goal.returns
unfolding covers divided_by
returns c =
    let a = c.has_divisor_among-2.ensures in
    let below = none_below_4097 (goal.at.returns c).Else-has_divisor_among in
    small_told _ _ a.some
    (λ e d s. none_listed_lem _ c.if-p-eq0.false 6144 4097 a e refl (omega arith) below d (omega (arith, s.high)) s)

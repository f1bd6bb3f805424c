-- `has_divisor_from_5` meets its contract. The loop's invariant: d is odd, and no small divisor is below it.
use Rattle.std.proofs.Common.{◌+◌, sym, arith}
use Rattle.std.proofs.lemmas.Nat.Gcd.{dvd_of_mod-eq-zero, mod-eq-zero_of_dvd}
use Rattle.divisors.specs.Inner.Inverted.{NoneBelow}
use Rattle.divisors.proofs.Laws.Small.{small_test, none_told}
use Rattle.divisors.proofs.Laws.Covering.{none_below_five, past}
use Rattle.divisors.proofs.has_divisor_from_5.Goals as goal
use Rattle.divisors.proofs.has_divisor_from_5.Goals.{Else-p-d-eq0}

pub loop-d-init : goal.loop-d-init
loop-d-init c = (omega arith, none_below_five _ c.requires.odd c.requires.not_by_three)

pub returns-then-p-d-eq0 : goal.returns-then-p-d-eq0
returns-then-p-d-eq0 c =
    sym (small_test _ _ (record { low = omega arith; high = omega arith; less = omega arith; divides = dvd_of_mod-eq-zero _ c.if-p-d-eq0.true }))

-- d does not divide p, and the even number behind it does not either
none_before_next : (c : Else-p-d-eq0) → NoneBelow c.args.p (c.loop-d.d + 2)
none_before_next c =
    past _ c.requires.odd _ c.loop-d.invariant.0 c.loop-d.invariant.1 (λ s. c.if-p-d-eq0.false (mod-eq-zero_of_dvd _ s.divides))

pub loop-d-preserved : goal.loop-d-preserved
loop-d-preserved c = (omega arith, none_before_next (goal.at.loop-d-preserved c).Else-p-d-eq0)

pub returns : goal.returns
returns c = none_told _ (λ d s. c.loop-d.invariant.1 d (omega (arith, s.high, s.less)) s)

-- no step is left below the end
pub returns-else-p-d-eq0 : goal.returns-else-p-d-eq0
returns-else-p-d-eq0 c = none_told _ (λ d s. none_before_next (goal.at.returns-else-p-d-eq0 c).Else-p-d-eq0 d (omega (arith, s.high, s.less)) s)

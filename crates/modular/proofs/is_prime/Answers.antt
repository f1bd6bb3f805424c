-- `is_prime` meets its contract. The loop's invariant: nothing from 2 up to d, which leaves 5 modulo 6, divides p. While d is at
-- most the root, 5 * d is at most p, so d + 2 is below p.
use Rattle.std.proofs.Common.{ℕ, ◌*◌, ◌≤◌, sym, ◌∙◌, mul-le-mul_right, mul-le-mul_left, arith}
use Rattle.std.proofs.lemmas.Nat.Gcd.{dvd_of_mod-eq-zero}
use Rattle.modular.proofs.Laws.Primes.{small_composite, small_prime, divisor_composite, small_divisor_composite, tried_small, Tried, tried_start, tried_more, tried_prime}
use Rattle.modular.proofs.is_prime.Goals as goal
use Rattle.modular.proofs.is_prime.Goals.{then-p-lt-TABLE_FROM, else-p-lt-TABLE_FROM+else-has_small_divisor, then-p-eq0-via-then-p-eq0, then-p-eq0-via-else-p-eq0+then-p-eq0-2, then-p-d-eq0-via-then-p-d-eq0, then-p-d-eq0-via-else-p-d-eq0+then-p-d-eq0-2}

-- while d is at most the root
five_times : (p d : ℕ) → Tried p d → d * d ≤ p → 5 * d ≤ p
five_times p d t root = omega (arith, mul-le-mul_right d t.low, root)

pub returns-then-p-lt2 : goal.returns-then-p-lt2
returns-then-p-lt2 c = sym (small_composite _ (omega arith))

pub returns-then-p-lt4 : goal.returns-then-p-lt4
returns-then-p-lt4 c = sym (small_prime _ (omega arith) (omega arith))

pub returns-then-p-eq0 : goal.returns-then-p-eq0
returns-then-p-eq0 c =
    elim c.then-p-eq0.branch [
      | then-p-eq0-via-then-p-eq0 w ↦ sym (divisor_composite _ 2 (omega arith) (omega arith) (dvd_of_mod-eq-zero 2 w.if-p-eq0.true))
      | then-p-eq0-via-else-p-eq0+then-p-eq0-2 w ↦ sym (divisor_composite _ 3 (omega arith) (omega arith) (dvd_of_mod-eq-zero 3 w.if-p-eq0-2.true))
    ]

pub returns-then-has_small_divisor : goal.returns-then-has_small_divisor
returns-then-has_small_divisor c = sym (small_divisor_composite _ (sym c.has_small_divisor.ensures ∙ c.if-has_small_divisor.true))

pub loop-d-init : goal.loop-d-init
loop-d-init c =
    elim c.if-p-lt-TABLE_FROM.branch [
      | then-p-lt-TABLE_FROM w ↦ rw w.first-is (tried_start _ c.if-p-eq0.false c.if-p-eq0-2.false)
      | else-p-lt-TABLE_FROM+else-has_small_divisor w ↦ rw w.first-is (tried_small _ (omega arith) (sym w.has_small_divisor.ensures ∙ w.if-has_small_divisor.false))
    ]

pub returns-then-p-d : goal.returns-then-p-d
returns-then-p-d c = sym (tried_prime _ c.loop-d.d (omega arith) c.loop-d.invariant c.if-p-d.true)

pub returns-then-p-d-eq0 : goal.returns-then-p-d-eq0
returns-then-p-d-eq0 c =
    let less = five_times _ _ c.loop-d.invariant c.if-p-d.false in
    let low = c.loop-d.invariant.low in
    elim c.then-p-d-eq0.branch [
      | then-p-d-eq0-via-then-p-d-eq0 w ↦ sym (divisor_composite _ _ (omega arith) (omega arith) (dvd_of_mod-eq-zero _ w.if-p-d-eq0.true))
      | then-p-d-eq0-via-else-p-d-eq0+then-p-d-eq0-2 w ↦ sym (divisor_composite _ _ (omega arith) (omega arith) (dvd_of_mod-eq-zero _ w.if-p-d-eq0-2.true))
    ]

pub loop-d-preserved : goal.loop-d-preserved
loop-d-preserved c = tried_more _ c.if-p-eq0.false c.if-p-eq0-2.false c.loop-d.d c.loop-d.invariant c.if-p-d-eq0.false c.if-p-d-eq0-2.false

pub returns : goal.returns
returns c =
    let past = mul-le-mul_right {m = 65536} {n = c.loop-d.d} 65536 c.loop-d-test.false in
    sym (tried_prime _ c.loop-d.d (omega arith) c.loop-d.invariant (omega (arith, past, mul-le-mul_left c.loop-d.d c.loop-d-test.false)))

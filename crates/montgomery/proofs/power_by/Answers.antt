-- `power_by` meets its contract: the loop's invariant is what repeated squaring keeps, and the measure is what is left of the exponent.
use native.Mathlib.Omega.{arith}
use Rattle.montgomery.proofs.Laws.Squaring.{stands_start, stands_even, stands_odd, stands_end}
use Rattle.montgomery.proofs.power_by.Goals as goal
use Rattle.montgomery.proofs.power_by.Goals.{then-rest-eq1, else-rest-eq1}

pub loop-rest-init : goal.loop-rest-init
loop-rest-init g c = (omega arith, omega arith, stands_start)

pub loop-rest-preserved : goal.loop-rest-preserved
loop-rest-preserved g c =
    let k = c.loop-rest.invariant.2 in
    let square = c.product-square in
    elim c.if-rest-eq1.branch [
      | then-rest-eq1 w ↦
          let times = w.product-result in
          (omega (arith, w.result-is, times.type_inv), square.type_inv, rw w.result-is (stands_odd k square.result (omega arith) square.ensures times.result (omega arith) times.ensures w.if-rest-eq1.true))
      | else-rest-eq1 w ↦ (omega (arith, w.result-is), square.type_inv, rw w.result-is (stands_even k square.result (omega arith) square.ensures w.if-rest-eq1.false))
    ]

pub returns : goal.returns
returns g c = stands_end c.loop-rest.invariant.2 (omega arith)

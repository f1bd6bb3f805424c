-- `count_steps` meets its contract: every step is mul, div or swp, so two counts tell the third.
use Prim.Native.Nat.{◌-◌, ◌≤◌}
use native.Mathlib.Omega.{arith}
use lib.ListN.{length}
use Rattle.tape.specs.Inner.Operations.{raw_steps}
use Rattle.tape.proofs.Laws.Rows.{raw_count}
use Rattle.machine.proofs.Laws.Counts.{kinds_within, counts_by_kinds}
use Rattle.previewing.proofs.count_steps.Goals as goal

-- the two are no more than there are steps
within : (c : goal.After-count_kind-div) → (c.count_kind-mul.result ≤ length c.args.words.now)
    × (c.count_kind-div.result ≤ length c.args.words.now - c.count_kind-mul.result)
within c =
    let words = c.args.words.now in
    let most = kinds_within (raw_steps words) in (
      omega (arith, most, raw_count words, c.count_kind-mul.ensures, c.count_kind-div.ensures),
      omega (arith, most, raw_count words, c.count_kind-mul.ensures, c.count_kind-div.ensures),
    )

pub overflow_sub-result : goal.overflow_sub-result
overflow_sub-result c = (within c).0

pub overflow_sub-result-2 : goal.overflow_sub-result-2
overflow_sub-result-2 c = (within c).1

pub returns : goal.returns
returns c =
    let words = c.args.words.now in
    rw (c.count_kind-mul.ensures, c.count_kind-div.ensures, ← raw_count words) (counts_by_kinds (raw_steps words))

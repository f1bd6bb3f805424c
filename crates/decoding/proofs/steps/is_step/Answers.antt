-- `steps::is_step` meets its contract: its tests are the parts of the shape of a step's word, and a word means a step where it has that shape.
use Rattle.std.proofs.Common.{◌-◌, sym, ◌∙◌}
use native.Mathlib.Omega.{arith}
use lib.Dec.{ltb}
use borrow.Author.Tests.{ltb-true, ltb-false, eq-eqb, ne_eqb}
use Rattle.refusal.proofs.Laws.Tests.{by_test}
use Rattle.tape.specs.Words.{kind_of, decoded}
use Rattle.tape.specs.Layout.{sort_of}
use Rattle.tape.proofs.Laws.Shapes.{Shape, step_shape, shape_sort}
use Rattle.decoding.proofs.steps.is_step.Goals as goal
use Rattle.decoding.proofs.steps.is_step.Goals.{then-payload-ge-REGISTER_PAIRS-via-then-payload-ge-REGISTER_PAIRS, then-payload-ge-REGISTER_PAIRS-via-else-payload-ge-REGISTER_PAIRS+then-kind-lt5}

pub returns-then-payload-ge-REGISTER_PAIRS : goal.returns-then-payload-ge-REGISTER_PAIRS
returns-then-payload-ge-REGISTER_PAIRS c =
    let word = c.args.word in
    sym (ne_eqb (sort_of (decoded word)) 5 (λ e.
    elim c.then-payload-ge-REGISTER_PAIRS.branch [
      | then-payload-ge-REGISTER_PAIRS-via-then-payload-ge-REGISTER_PAIRS w ↦ omega (arith, w.if-payload-ge-REGISTER_PAIRS.true, (step_shape word e).pair)
      | then-payload-ge-REGISTER_PAIRS-via-else-payload-ge-REGISTER_PAIRS+then-kind-lt5 w ↦ omega (arith, w.if-kind-lt5.true, (step_shape word e).first)
    ]))

pub returns : goal.returns
returns c =
    let word = c.args.word in
    let kinds = c.kinds_of.result in
    let are = c.kinds_of.ensures in
    let past = kind_of word - 5 in
    by_test (ltb past kinds)
    (λ t.
    let shape : Shape word = record {
      pair = c.if-payload-ge-REGISTER_PAIRS.false;
      first = c.if-kind-lt5.false;
      taken = omega (arith, are, ltb-true past kinds t, c.if-kind-lt5.false);
    } in
    t ∙ sym (eq-eqb (sort_of (decoded word)) 5 (shape_sort word shape)))
    (λ t. t ∙ sym (ne_eqb (sort_of (decoded word)) 5 (λ e. omega (arith, are, ltb-false past kinds t, (step_shape word e).taken, c.if-kind-lt5.false))))

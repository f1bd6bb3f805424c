-- `shift_all` meets its contract: what the steps from the start come to is what those that are left make of the exponents so
-- far, which are in range; and the first that leaves the range decides.
use mathlib.Core.Path.{refl, sym, ◌∙◌}
use mathlib.Core.Bool.{true≢false}
use native.Mathlib.Omega.{arith}
use Rattle.tape.proofs.Laws.Rows.{raw_count, raw_nth}
use Rattle.machine.proofs.Laws.Traces.{all_left, none_left, leaves, goes_on}
use Rattle.columns.proofs.shift_all.Goals as goal

pub loop-word-init : goal.loop-word-init
loop-word-init c = (refl, all_left _ _ c.requires)

pub shape_of-exponents-then-not-shift : goal.shape_of-exponents-then-not-shift
shape_of-exponents-then-not-shift c = c.shift.auto.exponents ∙ c.loop-word.invariant.0

pub returns-then-not-shift : goal.returns-then-not-shift
returns-then-not-shift c =
    let words = c.args.words.now in
    let read = c.operation_of.ensures ∙ sym (raw_nth words c.loop-word.word-index) in
    let gone = leaves _ _ _ _ read (omega (arith, raw_count words)) c.loop-word.invariant.1 (sym c.if-not-shift.true ∙ c.shift.ensures.value) in
    record {
      value = gone;
      exponents_after = λ e. absurd (true≢false (sym e));
    }

pub loop-word-preserved : goal.loop-word-preserved
loop-word-preserved c =
    let words = c.args.words.now in
    let read = c.operation_of.ensures ∙ sym (raw_nth words c.loop-word.word-index) in (
      c.shift.auto.exponents ∙ c.loop-word.invariant.0,
      goes_on _ _ _ _ read (omega (arith, raw_count words)) c.loop-word.invariant.1 _ (sym c.if-not-shift.false ∙ c.shift.ensures.value) c.shift.ensures.exponents_after,
    )

pub shape_of-exponents : goal.shape_of-exponents
shape_of-exponents c = c.loop-word.invariant.0

pub returns : goal.returns
returns c =
    let words = c.args.words.now in
    let done = none_left c.loop-word.word-index _ (omega (arith, raw_count words)) c.loop-word.invariant.1 in
    record {
      value = done.0;
      exponents_after = λ e. done.1;
    }

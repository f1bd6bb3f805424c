-- `raise_accepted` meets its contract: each return is a line of the service's own rules, and where all are passed the row is what the
-- lanes make of it.
use mathlib.Core.Path.{sym, ap, ◌∙◌}
use mathlib.Core.List.{List}
use Prim.Native.Nat.{ℕ}
use native.Mathlib.Omega.{arith}
use Rattle.refusal.proofs.Laws.Exits.{exit_verdict}
use Rattle.tape.specs.Inner.Operations.{raw_steps}
use Rattle.lanes.specs.Inner.Lanes.{through_lanes}
use Rattle.sequencer.proofs.Laws.Bases.{raise_free, raise_many, raise_row, raise_refused, raise_passed}
use Rattle.raising.proofs.Laws.Alone.{row_alone}
use Rattle.raising.proofs.raise_accepted.Goals as goal

pub returns-then-header-eq0 : goal.returns-then-header-eq0
returns-then-header-eq0 c =
    let told = raise_refused _ _ _ c.args.accepted.is_accepted (raise_free _ _ 0 c.if-header-eq0.true) in record {
      result_value = told.0;
      bases_after = told.1;
    }

pub returns-then-bases-gt-MAX_BASES : goal.returns-then-bases-gt-MAX_BASES
returns-then-bases-gt-MAX_BASES c =
    let told = raise_refused _ _ _ c.args.accepted.is_accepted (raise_many _ _ 0 c.if-header-eq0.false c.if-bases-gt-MAX_BASES.true) in record {
      result_value = told.0;
      bases_after = told.1;
    }

pub returns-in_err-check_bases : goal.returns-in_err-check_bases
returns-in_err-check_bases c =
    let told = raise_refused _ _ _ c.args.accepted.is_accepted
    (raise_row _ _ 0 c.if-header-eq0.false c.if-bases-gt-MAX_BASES.false
    ∙ sym c.in_err-check_bases.ensures) in record {
      result_value = exit_verdict _ _ c.from_residual.ensures.1 ∙ told.0;
      bases_after = told.1;
    }

pub returns : goal.returns
returns c =
    let few = c.if-bases-gt-MAX_BASES.false in
    let all = sym c.in_ok-check_bases.ensures in
    let told = raise_passed _ _ _ c.args.accepted.is_accepted _ (raise_row _ _ 0 c.if-header-eq0.false few ∙ all)
    (c.run_lanes.ensures
    ∙ ap (λ (l : List ℕ). through_lanes c.new.result (raw_steps l) c.args.bases.now) c.steps.ensures
    ∙ row_alone _ _ c.args.accepted.is_accepted _ (omega arith) c.new.ensures _ few all) in record {
      result_value = told.0;
      bases_after = told.1;
    }

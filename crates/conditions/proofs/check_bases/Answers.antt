-- `check_bases` meets its contract: where the bases so far pass, the rules of those that are left decide.
use Rattle.std.proofs.Common.{◌≡◌, refl, sym, ap, ◌∙◌, List, [], ◌∷◌, ℕ, suc, ◌+◌, ◌<◌, arith, length, get_or, drop, drop_of_length-le}
use lib.Seq.{drop-cons}
use Rattle.refusal.specs.Outcomes.{outcome}
use Rattle.refusal.proofs.Laws.Exits.{exit_verdict}
use Rattle.tape.specs.declared.Header.{Header}
use Rattle.sequencer.specs.Bases.{row_rules}
use Rattle.sequencer.proofs.Laws.Bases.{row_refused, row_passed, row_none}
use Rattle.conditions.proofs.check_bases.Goals as goal

-- the next base and those behind it
rest_is : (h : Header) (bases : List ℕ) (i : ℕ) → i < length bases
    → outcome {A = ℕ} (row_rules h (drop i bases)) 0 ≡ outcome (row_rules h (get_or bases i 0 ∷ drop (suc i) bases)) 0
rest_is h bases i inside = ap (λ (l : List ℕ). outcome (row_rules h l) 0) (drop-cons bases i 0 inside)

pub loop-base-init : goal.loop-base-init
loop-base-init c = refl

pub returns-in_err-check : goal.returns-in_err-check
returns-in_err-check c =
    exit_verdict _ _ c.from_residual.ensures.1
    ∙ rw (← c.of-rules.ensures)
    (sym
    (sym c.loop-base.invariant
    ∙ rest_is c.of-rules.result c.args.bases.now c.loop-base.base-index (omega arith)
    ∙ row_refused _ _ _ 0 (sym c.in_err-check.ensures)))

pub loop-base-preserved : goal.loop-base-preserved
loop-base-preserved c =
    let rules = c.of-rules.result in
    let bases = c.args.bases.now in
    let next : suc c.loop-base.base-index ≡ c.loop-base.base-index + 1 = omega arith in
    ap (λ (n : ℕ). outcome {A = ℕ} (row_rules rules (drop n bases)) 0) (sym next)
    ∙ sym (row_passed _ _ _ 0 (sym c.in_ok-check.ensures))
    ∙ sym (rest_is rules bases c.loop-base.base-index (omega arith))
    ∙ c.loop-base.invariant

pub returns : goal.returns
returns c =
    let rules = c.of-rules.result in
    let bases = c.args.bases.now in
    let none : drop c.loop-base.base-index bases ≡ [] = drop_of_length-le bases {i = c.loop-base.base-index} (omega arith) in
    rw (← c.of-rules.ensures) (sym (sym c.loop-base.invariant ∙ ap (λ (l : List ℕ). outcome (row_rules rules l) 0) none ∙ row_none rules 0))

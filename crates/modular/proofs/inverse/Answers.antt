-- `inverse` meets its contract: each return is a line of the service's list, and `exponent_inverse` answers none exactly where refusal 3 applies.
use Rattle.std.proofs.Common.{sym, ap, ◌∙◌, arith}
use Rattle.std.specs.Option.{ok_or}
use Rattle.refusal.specs.declared.Refusal.TheVariants.{Exponent}
use Rattle.refusal.specs.Outcomes.{answered, outcome_of}
use Rattle.refusal.proofs.Laws.Exits.{exit_of}
use Rattle.modular.proofs.Laws.Inverses.{exponent_none, exponent_some}
use Rattle.modular.proofs.Laws.Service.{order_refused, exponent_refused, inverse_answered}
use Rattle.modular.proofs.inverse.Goals as goal

pub returns-then-r-lt2 : goal.returns-then-r-lt2
returns-then-r-lt2 c = sym (order_refused _ _ (omega arith))

pub returns-in_err-value : goal.returns-in_err-value
returns-in_err-value c =
    let none = c.in_err-value.ensures.ok_part in
    exit_of _ _ c.from_residual.ensures.1
    ∙ ap outcome_of (c.in_err-value.ensures.value ∙ ap (λ o. ok_or o Exponent) none)
    ∙ sym (exponent_refused _ _ (omega arith) (exponent_none _ _ (sym c.exponent_inverse.ensures ∙ none)))

pub returns : goal.returns
returns c =
    let some = exponent_some _ _ (sym c.exponent_inverse.ensures ∙ c.in_ok-value.ensures.ok_part) in
    ap answered (c.from.ensures ∙ some.1) ∙ sym (inverse_answered _ _ (omega arith) some.0)

-- `trace_accepted` meets its contract: past the step count 10, else what start value 1's column comes to.
use Rattle.std.proofs.Common.{sym, ap, ◌∙◌}
use Rattle.refusal.specs.declared.Refusal.{Refusal}
use Rattle.refusal.specs.Refusals.{number_of}
use Rattle.refusal.specs.Outcomes.{refused}
use Rattle.refusal.proofs.Laws.Exits.{exit_by}
use Rattle.machine.specs.Exponents.{exponents_of}
use Rattle.sequencer.proofs.Laws.Cases.{trace_past, trace_by_column}
use Rattle.inspecting.proofs.trace_accepted.Goals as goal

pub returns-in_err-words : goal.returns-in_err-words
returns-in_err-words c =
    let past = c.in_err-words.ensures in
    exit_by _ exponents_of _ c.from_residual.ensures.1
    ∙ ap (λ (e : Refusal). refused (number_of e)) past.1
    ∙ sym (trace_past _ _ c.args.accepted.is_accepted _ past.0)

pub returns : goal.returns
returns c =
    let before = c.in_ok-words.ensures in
    rw before.1 at c.column.ensures ∙ sym (trace_by_column _ _ c.args.accepted.is_accepted _ before.0)

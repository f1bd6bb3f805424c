-- `accept_not_named` meets its contract: each return is a case of check by the layout, the variant and, of a free program, the modulus.
use Rattle.std.proofs.Common.{sym, ap, ◌∙◌}
use Rattle.refusal.specs.Outcomes.{answered}
use Rattle.refusal.proofs.Laws.Exits.{exit_of}
use Rattle.tape.specs.declared.Header.{Header}
use Rattle.tape.proofs.Laws.Reading.{ReadAs, read_answered}
use Rattle.named.specs.Parameters.{bad_variant}
use Rattle.program.proofs.Laws.Checking.{check_unread, check_variant, check_free_modulus, check_free}
use Rattle.accepting.proofs.accept_not_named.Goals.{In_ok-header}
use Rattle.accepting.proofs.accept_not_named.Goals as goal

read_as : (c : In_ok-header) → ReadAs c.args.tape.now c.in_ok-header.header
read_as c = read_answered _ _ (sym c.in_ok-header.ensures)

pub returns-in_err-header : goal.returns-in_err-header
returns-in_err-header c = exit_of _ _ c.from_residual.ensures.1 ∙ sym (check_unread _ _ _ (sym c.in_err-header.ensures))

pub returns-then-header-ne0 : goal.returns-then-header-ne0
returns-then-header-ne0 c =
    let read = read_as (goal.at.returns-then-header-ne0 c).In_ok-header in
    sym (check_variant _ _ _ read (ap (λ (h : Header). bad_variant h.variant) read.header ∙ c.requires) c.if-header-ne0.true)

pub returns-then-is_bad_modulus : goal.returns-then-is_bad_modulus
returns-then-is_bad_modulus c =
    let read = read_as (goal.at.returns-then-is_bad_modulus c).In_ok-header in
    sym (check_free_modulus _ _ _ read c.if-header-ne0.false (sym c.is_bad_modulus.ensures ∙ c.if-is_bad_modulus.true))

pub returns : goal.returns
returns c =
    let read = read_as (goal.at.returns c).In_ok-header in
    ap answered read.header ∙ sym (check_free _ _ _ read c.if-header-ne0.false (sym c.is_bad_modulus.ensures ∙ c.if-is_bad_modulus.false))

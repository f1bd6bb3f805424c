-- `table` meets its contract: it is refused where a column is, and else has the four as its columns.
use Rattle.std.proofs.Common.{sym, ap, ◌∙◌, arith}
use Rattle.refusal.specs.Outcomes.{answered}
use Rattle.refusal.proofs.Laws.Exits.{exit_by}
use Rattle.tables.specs.Tables.{matrix_of}
use Rattle.tables.proofs.Laws.Outcomes.{columns_refused, columns_answered}
use Rattle.columns.proofs.table.Goals as goal

pub returns-in_err-first : goal.returns-in_err-first
returns-in_err-first c = exit_by _ matrix_of _ c.from_residual.ensures.1 ∙ sym (columns_refused _ 0 (omega arith) (sym c.in_err-first.ensures))

pub returns-in_err-second : goal.returns-in_err-second
returns-in_err-second c = exit_by _ matrix_of _ c.from_residual-in_err-second.ensures.1 ∙ sym (columns_refused _ 1 (omega arith) (sym c.in_err-second.ensures))

pub returns-in_err-third : goal.returns-in_err-third
returns-in_err-third c = exit_by _ matrix_of _ c.from_residual-in_err-third.ensures.1 ∙ sym (columns_refused _ 2 (omega arith) (sym c.in_err-third.ensures))

pub returns-in_err-fourth : goal.returns-in_err-fourth
returns-in_err-fourth c = exit_by _ matrix_of _ c.from_residual-in_err-fourth.ensures.1 ∙ sym (columns_refused _ 3 (omega arith) (sym c.in_err-fourth.ensures))

pub returns : goal.returns
returns c =
    ap answered c.rows.ensures
    ∙ sym
    (columns_answered _
    (sym c.in_ok-first.ensures)
    (sym c.in_ok-second.ensures)
    (sym c.in_ok-third.ensures)
    (sym c.in_ok-fourth.ensures))

-- `table` meets its contract: what check refuses, table refuses, and the rules past it are `table_accepted`'s. What is said of every
-- answer holds of the outcome that it stands for.
use Rattle.std.proofs.Common.{sym, ◌∙◌}
use Rattle.refusal.proofs.Laws.Exits.{exit_by}
use Rattle.program.proofs.Laws.Door.{tape_refused}
use Rattle.tables.specs.Tables.{matrix_of}
use Rattle.sequencer.specs.Tables.{table_outcome, MeansProducts, HasSign}
use Rattle.sequencer.proofs.Laws.Answers.{said_of}
use Rattle.sequencer.proofs.Laws.Tables.{table_means, table_has_sign}
use Rattle.inspecting.proofs.table.Goals as goal

pub returns-in_err-accepted : goal.returns-in_err-accepted
unfolding table_outcome
returns-in_err-accepted c =
    let tape = c.args.tape.now in
    let position = c.args.position in let both = said_of (MeansProducts tape position) (HasSign tape position) (table_means tape position) (table_has_sign tape position)
    (exit_by _ matrix_of _ c.from_residual.ensures.1 ∙ sym (tape_refused _ _ _ c.in_err-accepted.ensures)) in record { result_value = both.0; means_products = both.1.0; has_sign = both.1.1 }

pub returns : goal.returns
returns c =
    let tape = c.args.tape.now in
    let position = c.args.position in let both = said_of (MeansProducts tape position) (HasSign tape position) (table_means tape position) (table_has_sign tape position) (rw c.in_ok-accepted.ensures.0 at c.table_accepted.ensures) in record { result_value = both.0; means_products = both.1.0; has_sign = both.1.1 }

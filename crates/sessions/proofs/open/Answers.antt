-- `open` meets its contract: opening comes to what a run to where the record stands does, and each arm of the `match` says whether that was
-- refused.
use Rattle.std.proofs.Common.{sym}
use Rattle.sequencer.proofs.Laws.Sessions.{open_answered, open_refused}
use Rattle.sessions.proofs.open.Goals as goal

pub returns-in-Ok : goal.returns-in-Ok
returns-in-Ok c =
    let e = open_answered _ _ (sym c.in-Ok.ensures) in
    record { tape_value = rw e; state_value = rw e; number_value = rw e }

pub returns-in-Err : goal.returns-in-Err
returns-in-Err c =
    let e = open_refused _ _ (sym c.in-Err.ensures) in
    record { tape_value = rw e; state_value = rw e; number_value = rw e }

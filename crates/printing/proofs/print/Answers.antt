-- `print` meets its contract: the answer as it is shown, or the refusal.
use Rattle.printing.proofs.print.Goals as goal

pub returns-in-Ok : goal.returns-in-Ok
returns-in-Ok g c = rw c.in-Ok.is c.show.ensures

pub returns-in-Err : goal.returns-in-Err
returns-in-Err g c = rw (c.in-Err.is, ← c.from.ensures) c.refuse.ensures

-- `values::record` meets its contract: each of its numbers is a parameter.
use Rattle.tape_verbs.proofs.values.record.Goals as goal

pub returns : goal.returns
returns c =
    rw (c.parameter.ensures, c.parameter-2.ensures, c.parameter-3.ensures, c.parameter-4.ensures, c.parameter-5.ensures)

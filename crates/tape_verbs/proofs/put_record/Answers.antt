-- `put_record` meets its contract: five places are written one after another, and the row keeps its length.
use native.Mathlib.Omega.{arith}
use lib.ListN.{length-set}
use Rattle.tape_verbs.proofs.put_record.Goals as goal

pub bounds-told-1 : goal.bounds-told-1
bounds-told-1 c = simp length-set (omega arith)

pub bounds-told-2 : goal.bounds-told-2
bounds-told-2 c = simp length-set (omega arith)

pub bounds-told-3 : goal.bounds-told-3
bounds-told-3 c = simp length-set (omega arith)

pub bounds-told-4 : goal.bounds-told-4
bounds-told-4 c = simp length-set (omega arith)

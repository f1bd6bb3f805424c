-- `put` meets its contract: with i elements put, the row has the text's first i from `at` on.
use Rattle.std.proofs.Common.{◌≡◌, take}
use Rattle.std.proofs.lemmas.List.Edits.{sets}
use Rattle.putting.proofs.put.Given as goal

abbrev pub invariant-loop-i : goal.invariant-loop-i
invariant-loop-i g l = l.row ≡ sets l.initial.row l.at (take l.i l.items)

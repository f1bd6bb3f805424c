-- `parameters` meets its contract: the numbers read are those in the row in front of those of the words left.
use Rattle.std.proofs.Common.{◌≡◌, length}
use Rattle.text.specs.Reading.{split_words}
use Rattle.tool.specs.Verbs.{max_parameters}
use Rattle.tool.proofs.Laws.Calls.{Sofar}
use Rattle.arguments.proofs.parameters.Given as goal

abbrev pub invariant-loop-place : goal.invariant-loop-place
invariant-loop-place l = (length l.values ≡ max_parameters) × Sofar l.row (split_words l.arguments) l.place l.values

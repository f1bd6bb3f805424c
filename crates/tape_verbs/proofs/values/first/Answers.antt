-- `values::first` meets its contract: of fewer parameters than a verb can have all are the first.
use mathlib.Core.Path.{sym}
use native.Mathlib.Omega.{arith}
use lib.Seq.{take_all, length-take-le}
use Rattle.tool.specs.Verbs.{max_parameters}
use Rattle.tape_verbs.proofs.values.first.Goals as goal

pub returns-then-values-lt-MAX_PARAMETERS : goal.returns-then-values-lt-MAX_PARAMETERS
returns-then-values-lt-MAX_PARAMETERS c = sym (take_all max_parameters c.args.values.now (omega arith))

pub slice_bounds-result-end : goal.slice_bounds-result-end
slice_bounds-result-end c = sym (length-take-le max_parameters c.args.values.now (omega arith))

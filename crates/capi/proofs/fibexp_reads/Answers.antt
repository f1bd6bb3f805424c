-- `fibexp_reads` meets its contract: the command's answer as a number.
use mathlib.Core.Path.{ap, ◌∙◌}
use Rattle.fibonacci.specs.Services.{bit}
use Rattle.capi.proofs.fibexp_reads.Goals as goal

pub returns : goal.returns
returns c = c.bit.ensures ∙ ap bit c.reads_tape.ensures

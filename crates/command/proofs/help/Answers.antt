-- `help` meets its contract: the usage is never too long.
use Rattle.tool.proofs.Laws.Lengths.{usage_most}
use mathlib.Core.Path.{refl}
use Rattle.command.proofs.help.Goals as goal

pub returns : goal.returns
returns c = record { status = refl; text = c.put_usage.ensures; short = usage_most }

-- `small` meets its contract: what is held to 32 bits may have been held to 64 before.
use Rattle.std.proofs.Common.{arith}
use Rattle.tool.specs.Verbs.{largest32, largest64}
use Rattle.tool.proofs.Laws.Held.{held_at}
use Rattle.widths.proofs.small.Goals as goal

pub returns : goal.returns
returns c =
    omega
    (arith, c.held_word.ensures, c.large.ensures, held_at largest64 c.args.values.now c.args.place, held_at largest32 c.args.values.now c.args.place)

-- `note` meets its contract: past the row setting changes nothing.
use mathlib.Core.Path.{sym, ap}
use lib.ListN.{set}
use lib.Seq.{set_out}
use Rattle.playing.proofs.note.Goals as goal

pub returns-then-at-numbers : goal.returns-then-at-numbers
returns-then-at-numbers c = let start = c.args in ap (set start.numbers.now start.at) c.number_of.ensures

pub returns-else-at-numbers : goal.returns-else-at-numbers
returns-else-at-numbers c = sym (set_out _ _ _ c.if-at-numbers.false)

-- `behind` meets its contract: the tape at hand then begins and ends where the row of tapes ends.
use mathlib.Core.Path.{refl}
use mathlib.Core.List.{[]}
use Rattle.scripting.proofs.Laws.Edits.{did_behind}
use Rattle.edits.proofs.behind.Goals as goal

pub returns : goal.returns
returns c = did_behind c.requires [] refl c.count_words.ensures

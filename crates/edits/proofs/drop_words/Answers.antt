-- `drop_words` meets its contract: the tape keeps its words but the last ones, or none where it has no more than those.
use Rattle.std.proofs.Common.{◌≡◌, ◌-◌, get_or, refl, arith}
use Rattle.tool.specs.Verbs.{largest32}
use Rattle.tool.specs.Inner.Held.{held_to}
use Rattle.scripting.proofs.Laws.Edits.{did_dropped}
use Rattle.edits.proofs.drop_words.Goals as goal

pub returns : goal.returns
returns c = let n : c.small.result ≡ get_or (held_to largest32 c.args.values.now) 0 0 = c.small.ensures in
    did_dropped c.requires (held_to largest32 c.args.values.now) (c.args.marks.end - c.min-count.result) (omega (arith, n, c.min-count.ensures, c.requires.begin)) refl c.count_words.ensures

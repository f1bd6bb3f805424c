-- `change` meets its contract: the word is one of the tape at hand, or there is no such word.
use mathlib.Core.Path.{◌≡◌, refl}
use native.Mathlib.Omega.{arith}
use lib.ListN.{get_or}
use Rattle.tool.specs.Verbs.{largest32}
use Rattle.scripting.specs.Script.{no_word_line}
use Rattle.tool.specs.Inner.Held.{held_to}
use Rattle.scripting.proofs.Laws.Tapes.{did_print}
use Rattle.scripting.proofs.Laws.Edits.{did_changed, did_not_change}
use Rattle.edits.proofs.change.Goals as goal

pub returns-then-marks-index : goal.returns-then-marks-index
returns-then-marks-index c = did_not_change c.requires (held_to largest32 c.args.values.now) (omega (arith, c.small-index.ensures, c.if-marks-index.true)) (did_print no_word_line c.requires refl c.put.ensures (omega arith))

pub returns : goal.returns
returns c = let n : c.small-index.result ≡ get_or (held_to largest32 c.args.values.now) 0 0 = c.small-index.ensures in
    rw (n, c.small.ensures) (did_changed c.requires (held_to largest32 c.args.values.now) (omega (arith, n, c.if-marks-index.false)) c.count_words.ensures)

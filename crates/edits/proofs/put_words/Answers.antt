-- `put_words` meets its contract: the words stand behind those that the tape keeps, or the row has no room for them.
use Rattle.std.proofs.Common.{ℕ, ◌+◌, ◌≤◌, length, refl, sym, ap, arith}
use Rattle.text.proofs.Laws.Puts.{put_fits}
use Rattle.tool.specs.Verbs.{largest32}
use Rattle.tool.specs.Inner.Held.{held_to}
use Rattle.tool.proofs.Laws.Held.{held_length}
use Rattle.scripting.proofs.Laws.Tapes.{ended}
use Rattle.scripting.proofs.Laws.Edits.{did_no_words, did_words}
use Rattle.edits.proofs.put_words.Goals as goal

pub returns-then-tapes-at : goal.returns-then-tapes-at
returns-then-tapes-at c =
    let values = c.args.values.now in
    did_no_words c.requires.inside (held_to largest32 values) c.requires.behind c.requires.within (omega (arith, held_length largest32 values, c.if-tapes-at.true)) refl c.put_full.ensures

pub returns : goal.returns
returns c =
    let values = c.args.values.now in
    let same = held_length largest32 values in
    let room : c.args.at + length (held_to largest32 values) ≤ length c.args.tapes.now = omega (arith, same, c.if-tapes-at.false, c.requires.within, c.requires.inside.end) in
    did_words c.requires.inside c.requires.behind room (put_fits c.words.ensures room)
    (ap (λ (n : ℕ). ended c.args.marks (c.args.at + n)) (sym same)) c.count_words.ensures

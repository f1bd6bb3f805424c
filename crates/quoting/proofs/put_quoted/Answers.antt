-- `put_quoted` meets its contract: a word of at most 64 bytes is put whole, any other cut and with dots.
use Rattle.std.proofs.Common.{take, length, append-nil}
use borrow.Author.Tests.{le-leb, lt-leb}
use Rattle.std.proofs.lemmas.List.{take_min}
use Rattle.text.specs.Quoting.{shown, escapes, quoted}
use Rattle.putting.proofs.Laws.Buffers.{puts_both}
use Rattle.quoting.proofs.put_quoted.Goals as goal
use Rattle.quoting.proofs.put_quoted.Goals.{then-word-gt-SHOWN, else-word-gt-SHOWN}

pub returns : goal.returns
unfolding quoted
returns c =
    let word = c.args.word.now in
    let part = puts_both c.put_byte.ensures (rw (c.min.ensures, take_min shown word) at c.put_escapes.ensures) in
    elim c.if-word-gt-SHOWN.branch [
      | then-word-gt-SHOWN w ↦
          rw (lt-leb (length word) shown w.if-word-gt-SHOWN.true) (puts_both (puts_both part w.put.ensures) (rw w.buffer-is at c.put_byte-2.ensures))
      | else-word-gt-SHOWN w ↦
          rw (le-leb (length word) shown w.if-word-gt-SHOWN.false, append-nil (escapes (take shown word))) (puts_both part (rw w.buffer-is at c.put_byte-2.ensures))
    ]

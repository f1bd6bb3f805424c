-- `tape_words` meets its contract: what is no tape gives no words, else the words of the bytes.
use Rattle.text.proofs.Laws.Puts.{put_none}
use Rattle.encoding.proofs.Laws.Cases.{words_long, words_odd, words_whole}
use Rattle.encoding.proofs.tape_words.Goals as goal

pub returns-then-bytes-gt-MAX_BYTES : goal.returns-then-bytes-gt-MAX_BYTES
returns-then-bytes-gt-MAX_BYTES c = rw (words_long _ c.if-bytes-gt-MAX_BYTES.true) (put_none _ 0)

pub returns-then-bytes-ne0 : goal.returns-then-bytes-ne0
returns-then-bytes-ne0 c = rw (words_odd _ c.if-bytes-gt-MAX_BYTES.false c.if-bytes-ne0.true) (put_none _ 0)

pub returns : goal.returns
returns c = rw (words_whole _ c.if-bytes-gt-MAX_BYTES.false c.if-bytes-ne0.false) c.words.ensures

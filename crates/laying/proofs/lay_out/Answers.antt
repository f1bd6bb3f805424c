-- `lay_out` meets its contract: without a place it returns before it writes, and with one it stores the words that the definition
-- sets, each at its index.
use Rattle.std.proofs.Common.{refl, sym, ◌∙◌, length, arith}
use Rattle.tape.specs.Words.{encoded}
use Rattle.tape.proofs.Laws.Writing.{place_short, place_unfit, place_there}
use Rattle.laying.proofs.lay_out.Goals as goal

pub returns-then-buffer-word_count : goal.returns-then-buffer-word_count
returns-then-buffer-word_count c =
    let none = place_short c.args.header (length c.args.buffer.now) (omega (arith, c.word_count.ensures, c.if-buffer-word_count.true)) in
    record { value = rw none refl; buffer_after = rw none refl }

pub returns-then-not-numbers_fit : goal.returns-then-not-numbers_fit
returns-then-not-numbers_fit c =
    let none = place_unfit c.args.header (length c.args.buffer.now) (sym c.numbers_fit.ensures ∙ c.if-not-numbers_fit.true) in
    record { value = rw none refl; buffer_after = rw none refl }

pub returns : goal.returns
unfolding encoded
returns c =
    let there = place_there c.args.header (length c.args.buffer.now) (omega (arith, c.word_count.ensures, c.if-buffer-word_count.false)) (sym c.numbers_fit.ensures ∙ c.if-not-numbers_fit.false) in
    record { value = rw there refl; buffer_after = rw there refl }

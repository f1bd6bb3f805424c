-- `count_way` meets its contract: forward the steps between are the way, backward they are the way taken back.
use mathlib.Core.Path.{ap, ◌∙◌}
use mathlib.Core.List.{List}
use Prim.Native.Nat.{ℕ}
use native.Mathlib.Omega.{arith}
use Rattle.tape.specs.Inner.Operations.{raw_steps}
use Rattle.tape.proofs.Laws.Rows.{part_length}
use Rattle.machine.specs.Ways.{counts_of}
use Rattle.machine.proofs.Laws.Counts.{exchanged}
use Rattle.sequencer.proofs.Laws.Previews.{counts_forward, counts_backward}
use Rattle.previewing.proofs.count_way.Goals as goal

pub count_steps-requires : goal.count_steps-requires
count_steps-requires c = rw c.part.ensures (omega (arith, part_length c.args.words.now c.args.from c.args.to, c.requires.words_len_bound))

pub returns-then-from-to : goal.returns-then-from-to
returns-then-from-to c =
    c.count_steps.ensures
    ∙ ap (λ (l : List ℕ). counts_of (raw_steps l)) c.part.ensures
    ∙ counts_forward c.args.words.now _ _ c.requires.inside c.if-from-to.true

pub count_steps-undone-requires : goal.count_steps-undone-requires
count_steps-undone-requires c = rw c.part-2.ensures (omega (arith, part_length c.args.words.now c.args.to c.args.from, c.requires.words_len_bound))

pub returns : goal.returns
returns c =
    ap exchanged (c.count_steps-undone.ensures ∙ ap (λ (l : List ℕ). counts_of (raw_steps l)) c.part-2.ensures)
    ∙ counts_backward c.args.words.now _ _ c.requires.inside (omega arith)

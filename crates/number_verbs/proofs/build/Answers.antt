-- `build` meets its contract: what build answers stands in the buffer's front, and its bytes are put.
use Rattle.std.specs.Prelude.{Result, Ok}
use mathlib.Core.Path.{◌≡◌, refl, sym, ap, ◌∙◌}
use Prim.Native.Nat.{ℕ, ◌≤◌}
use mathlib.Core.List.{List}
use native.Mathlib.Omega.{arith}
use lib.ListN.{length, take}
use lib.Seq.{length-take-le}
use Rattle.refusal.specs.declared.Refusal.{Refusal}
use Rattle.refusal.specs.Outcomes.{Outcome, answered, outcome_of}
use Rattle.tape.specs.Layout.{max_words}
use Rattle.encoding.specs.Encoding.{bytes_of}
use Rattle.encoding.proofs.Laws.Bytes.{bytes_length}
use Rattle.named.specs.Named.{named_words}
use Rattle.program.specs.Services.{build_outcome}
use Rattle.program.proofs.Laws.Checking.{build_count, build_words}
use Rattle.tool.specs.Replies.{built}
use Rattle.tool.specs.Rows.{max_text}
use Rattle.std.proofs.Common.{rules}
use Rattle.putting.proofs.Laws.Buffers.{puts_fresh}
use Rattle.number_verbs.proofs.build.Goals as goal

made : {a : Result ℕ Refusal} {o : Outcome ℕ} {n : ℕ} → outcome_of a ≡ o → a ≡ Ok n → o ≡ answered n
made value is = sym value ∙ ap outcome_of is

-- what is counted is in the buffer
fits : (p r k variant n : ℕ) (row : List ℕ) → length row ≡ max_words → build_outcome p r k variant max_words ≡ answered n → n ≤ length row
fits p r k variant n row whole told = omega (arith, (build_count p r k variant max_words n told).1)

-- the bytes of no tape are more than the most text
short : (p r k variant n : ℕ) → build_outcome p r k variant max_words ≡ answered n → length (bytes_of (named_words p r k variant)) ≤ max_text
short p r k variant n told =
    let counts = build_count p r k variant max_words n told in
    rw bytes_length (omega (arith, counts.0, counts.1))

pub slice_bounds-row-end : goal.slice_bounds-row-end
slice_bounds-row-end c = fits _ _ _ _ _ _ c.build-answer.auto.buffer (made c.build-answer.ensures.result_value c.in-Ok.is)

pub slice_bounds-tape_bytes-end : goal.slice_bounds-tape_bytes-end
slice_bounds-tape_bytes-end c = sym (length-take-le _ _ (fits _ _ _ _ _ _ c.build-answer.auto.buffer (made c.build-answer.ensures.result_value c.in-Ok.is)))

pub returns-in-Ok : goal.returns-in-Ok
unfolding built
returns-in-Ok c =
    let told = made c.build-answer.ensures.result_value c.in-Ok.is in
    let words = ap (take c.in-Ok.n) c.build-answer.ensures.buffer_after ∙ build_words _ _ _ _ _ _ told in
    let bytes = puts_fresh c.new-buffer.ensures (rw words at c.tape_bytes.ensures) in
    rw (← c.small-p.ensures, ← c.small-r.ensures, ← c.small-k.ensures, ← c.small.ensures, told)
    (record { status = refl; text = search rules; short = short _ _ _ _ _ told })

pub returns-in-Err : goal.returns-in-Err
unfolding built
returns-in-Err c =
    rw (← c.small-p.ensures, ← c.small-r.ensures, ← c.small-k.ensures, ← c.small.ensures, sym c.build-answer.ensures.result_value ∙ ap outcome_of c.in-Err.is, ← c.from.ensures)
    c.refuse.ensures

-- What cut replies: a part has no more words than a tape, so its line fits.
use mathlib.Core.Path.{◌≡◌, refl, ap, ◌∙◌}
use mathlib.Core.List.{List}
use Prim.Native.Nat.{ℕ, ◌+◌, ◌*◌, ◌≤◌}
use native.Mathlib.Omega.{arith}
use lib.ListN.{length}
use Rattle.refusal.specs.Outcomes.{refusal_number}
use Rattle.text.specs.Text.{numbers_line}
use Rattle.text.specs.Rows.{Put}
use Rattle.tape.specs.Layout.{max_words, step_words}
use Rattle.sequencer.specs.Services.{cut_outcome, cut_part}
use Rattle.sequencer.proofs.Laws.Answers.{cut_stands}
use Rattle.tool.specs.Replies.{printed}
use Rattle.tool.specs.Rows.{Told}

pub cut_told : {before after part : List ℕ} {next : ℕ} (own : ℕ) (tape : List ℕ) (first last : ℕ) → part ≡ cut_part (cut_outcome tape first last)
    → refusal_number (cut_outcome tape first last) ≡ 0 → Put before 0 (numbers_line part) next after → length (numbers_line part) ≤ 11 * length part + 1
    → Told before (printed own (cut_outcome tape first last) numbers_line) (record { status = 0; length = next }) after
cut_told {part = part} own tape first last e zero put bound =
    let s = cut_stands tape first last zero in
    let is : part ≡ step_words tape first last = e ∙ ap cut_part s.words in
    let small : length part ≤ max_words = rw is (omega (arith, s.most, s.short)) in
    rw (s.words, ← is) (record { status = refl; text = put; short = omega arith })

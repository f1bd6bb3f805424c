-- `rules::is_end` meets its contract: the word past the steps is of the end's sort and has the count, or isn't.
use Rattle.std.proofs.Common.{sym, ap, ◌∙◌, ◌≡◌, arith, List, ℕ}
use Rattle.tape.specs.Words.{decoded}
use Rattle.tape.specs.declared.Decoded.{Decoded}
use Rattle.tape.specs.Layout.{step_count, step_index, end_at, means_at, is_end}
use Rattle.tape.proofs.Laws.Words.{meaning_sort}
use Rattle.tape.proofs.Laws.Reading.{end_sort}
use Rattle.layout.proofs.rules.is_end.Goals as goal

pub overflow_add-steps : goal.overflow_add-steps
overflow_add-steps c = omega (arith, c.step_count-steps.ensures, c.well_formed)

-- the word that is read is the one past the steps
end : (tape : List ℕ) {count : ℕ} {d : Decoded} → d ≡ means_at tape (step_index tape count) → count ≡ step_count tape → d ≡ decoded (end_at tape)
end tape read counted = read ∙ ap (λ (n : ℕ). means_at tape (step_index tape n)) counted

pub returns-in_default : goal.returns-in_default
returns-in_default c =
    let read = end _ c.means_at.ensures c.step_count-steps.ensures in
    sym (end_sort _ _ (λ e. c.in_default.not-End _ (read ∙ meaning_sort _ e)))

pub returns : goal.returns
unfolding is_end
returns c =
    let read = end _ c.means_at.ensures c.step_count-steps.ensures in
    rw (sym read ∙ c.in-End.is, c.step_count-steps.ensures)

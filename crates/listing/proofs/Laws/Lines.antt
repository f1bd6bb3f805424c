-- The lines of steps, one after another.
use mathlib.Core.Path.{◌≡◌, refl, ap, ◌∙◌}
use mathlib.Core.List.{List, [], ◌++◌}
use Prim.Native.Nat.{ℕ, ◌+◌, ◌≤◌, ◌<◌}
use native.Mathlib.Omega.{arith}
use lib.ListN.{length, get_or, drop, drop_of_length-le, length-map}
use Rattle.tape.specs.declared.Step.{Step}
use Rattle.tape.specs.Words.{decoded}
use Rattle.tape.specs.Layout.{step_of, steps_in}
use Rattle.tape.proofs.Laws.Rows.{steps_nth}
use Rattle.tape.proofs.Laws.Rows.{drop_next}
use Rattle.listing.specs.Listing.{step_line, step_lines}

module _ (words : List ℕ) where
  count : length (steps_in words) ≡ length words
  count = simp length-map

  -- the lines from step i + 1 on: that step's, and those from the next on
  pub lines_next : (i : ℕ) → i < length words
      → step_lines (i + 1) (drop i (steps_in words)) ≡ step_line (i + 1) (step_of (decoded (get_or words i 0))) ++ step_lines (i + 1 + 1) (drop (i + 1) (steps_in words))
  unfolding step_lines
  lines_next i h =
      ap (step_lines (i + 1)) (drop_next (steps_in words) i (i + 1) (step_of (decoded 0)) refl (omega (arith, count)))
      ∙ ap (λ (x : Step). step_line (i + 1) x ++ step_lines (i + 1 + 1) (drop (i + 1) (steps_in words))) (steps_nth words i)

  pub lines_end : (n i : ℕ) → length words ≤ i → step_lines n (drop i (steps_in words)) ≡ []
  unfolding step_lines
  lines_end n i h = ap (step_lines n) (drop_of_length-le (steps_in words) {i = i} (omega (arith, count)))

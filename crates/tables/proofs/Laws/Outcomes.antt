-- What the four columns come to one by one, the table comes to: it is refused where one of them is, and else they are its columns.
use mathlib.Core.Path.{◌≡◌, ap, ◌∙◌}
use mathlib.Core.Bool.{true, not}
use mathlib.Core.List.{List, [], ◌∷◌}
use Prim.Native.Nat.{ℕ, ◌<◌}
use borrow.Author.Tests.{not-true, not-false}
use lib.IntN.{ℤ}
use Rattle.refusal.specs.declared.Refusal.TheVariants.{Range}
use Rattle.refusal.specs.Outcomes.{refused, answered, gives, passes, answers}
use Rattle.refusal.proofs.Laws.Rules.{passed, refused_by, answer_is}
use Rattle.matrices.specs.Matrices.{transposed}
use Rattle.matrices.proofs.Laws.Below.{each_below_4}
use Rattle.tape.specs.declared.Step.{Step}
use Rattle.machine.specs.Exponents.{stays_in_range}
use Rattle.tables.specs.Tables.{unit, column_after, table_of}
use Rattle.tables.specs.Inner.Columns.{column_outcome, columns_outcome}
use Rattle.tables.proofs.Laws.Ranges.{column_leaves, stays_columns}

module _ (xs : List Step) where
  pub columns_refused : (j : ℕ) {n : ℕ} → j < 4 → column_outcome xs j ≡ refused n → columns_outcome xs ≡ refused n
  unfolding column_outcome columns_outcome
  columns_refused j h e = let by = refused_by _ Range _ e in gives _ _ _ (ap not (column_leaves xs j h (not-true _ by.0))) ∙ ap refused by.1

  module _ (j : ℕ) {z : List ℤ} (e : column_outcome xs j ≡ answered z) where
    column_stays : stays_in_range xs (unit j) ≡ true
    unfolding column_outcome
    column_stays = not-false _ (passed _ _ _ _ _ e).0

    column_is : z ≡ column_after xs j
    unfolding column_outcome
    column_is = answer_is _ _ e

  pub columns_answered : {w x y z : List ℤ}
      → column_outcome xs 0 ≡ answered w → column_outcome xs 1 ≡ answered x → column_outcome xs 2 ≡ answered y → column_outcome xs 3 ≡ answered z
      → columns_outcome xs ≡ answered (transposed 4 (w ∷ x ∷ y ∷ z ∷ []))
  unfolding columns_outcome table_of
  columns_answered a b c d =
      let each = each_below_4 (λ j. stays_in_range xs (unit j) ≡ true) (column_stays 0 a) (column_stays 1 b) (column_stays 2 c) (column_stays 3 d) in
      passes _ _ _ (ap not (stays_columns xs each)) ∙ answers _ ∙ rw (column_is 0 a, column_is 1 b, column_is 2 c, column_is 3 d)

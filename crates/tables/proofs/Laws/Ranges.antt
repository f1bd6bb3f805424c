-- A table stays in range exactly where each of its entries is in the range at every position: the entries of column j at a position are the
-- exponents that the steps up to there make of start value j.
use mathlib.Core.Path.{◌≡◌, refl, sym, ap, ◌∙◌}
use mathlib.Core.Bool.{true, false, ◌&&◌, true≢false}
use mathlib.Core.List.{List}
use Prim.Native.Nat.{ℕ, zero, suc, ◌<◌}
use native.Mathlib.Omega.{arith}
use lib.ListN.{length, take, length-set}
use Rattle.refusal.proofs.Laws.Tests.{both, and_both, test_false}
use Rattle.tape.specs.declared.Step.{Step}
use Rattle.matrices.specs.Matrices.{entry_at}
use Rattle.matrices.proofs.Laws.Below.{each_below_4}
use Rattle.machine.specs.Exponents.{in_range, all_in_range, stays_in_range}
use Rattle.machine.proofs.Laws.Ranges.{each_in_range, all_in_range_lem, stays_take, stays_last, stays_everywhere}
use Rattle.machine.proofs.Laws.Exponents.{length_shift_all}
use Rattle.tables.specs.Tables.{unit, column_after, table_of, table_stays}
use Rattle.tables.proofs.Laws.Entries.{entry_is}

-- ---- columns

pub column_four : (xs : List Step) (j : ℕ) → length (column_after xs j) ≡ 4
column_four xs j = length_shift_all xs (unit j) ∙ simp length-set

-- before any step
pub unit_range : (j : ℕ) → all_in_range (unit j) ≡ true
unfolding all_in_range in_range
unit_range zero = refl
unit_range (suc zero) = refl
unit_range (suc (suc zero)) = refl
unit_range (suc (suc (suc zero))) = refl
unit_range (suc (suc (suc (suc j)))) = refl

module _ (xs : List Step) where
  pub columns_stay : table_stays xs ≡ true → (j : ℕ) → j < 4 → stays_in_range xs (unit j) ≡ true
  unfolding table_stays
  columns_stay stays =
      let third = both (stays_in_range xs (unit 0) && stays_in_range xs (unit 1) && stays_in_range xs (unit 2)) (stays_in_range xs (unit 3)) stays in
      let second = both (stays_in_range xs (unit 0) && stays_in_range xs (unit 1)) (stays_in_range xs (unit 2)) third.0 in
      let first = both (stays_in_range xs (unit 0)) (stays_in_range xs (unit 1)) second.0 in
      each_below_4 (λ j. stays_in_range xs (unit j) ≡ true) first.0 first.1 second.1 third.1

  pub stays_columns : ((j : ℕ) → j < 4 → stays_in_range xs (unit j) ≡ true) → table_stays xs ≡ true
  unfolding table_stays
  stays_columns each =
      and_both _ _ (and_both _ _ (and_both _ _ (each 0 (omega arith)) (each 1 (omega arith))) (each 2 (omega arith))) (each 3 (omega arith))

  pub column_leaves : (j : ℕ) → j < 4 → stays_in_range xs (unit j) ≡ false → table_stays xs ≡ false
  column_leaves j h out = test_false (table_stays xs) (λ stays. true≢false (sym (columns_stay stays j h) ∙ out))

-- ---- entries

-- every entry at every position
abbrev pub EntriesInRange : List Step → Type 0
EntriesInRange xs = (n i j : ℕ) → i < 4 → j < 4 → in_range (entry_at (table_of (take n xs)) i j) ≡ true

pub stays_entries : (xs : List Step) → table_stays xs ≡ true → EntriesInRange xs
stays_entries xs stays n i j h k =
    let there = stays_last (take n xs) (unit j) (stays_take n xs (unit j) (columns_stay xs stays j k)) in
    ap in_range (entry_is (take n xs) i j h k) ∙ each_in_range (column_after (take n xs) j) there i (rw (column_four (take n xs) j) h)

pub entries_stay : (xs : List Step) → EntriesInRange xs → table_stays xs ≡ true
entries_stay xs each =
    stays_columns xs
    (λ j k.
    stays_everywhere xs (unit j)
    (λ n.
    all_in_range_lem (column_after (take n xs) j)
    (λ i h. ap in_range (sym (entry_is (take n xs) i j (rw (column_four (take n xs) j) at h) k)) ∙ each n i j (rw (column_four (take n xs) j) at h) k)))

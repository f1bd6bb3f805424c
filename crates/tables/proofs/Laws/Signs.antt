-- The determinant of a table is 1 after an even number of swaps and -1 after an odd number: it is 1 of the identity, a mul adds a row to
-- another, a div is a mul taken back, and a swp exchanges two rows.
use mathlib.Core.Path.{◌≡◌, refl, sym, ap, ◌∙◌, fun_ext}
use mathlib.Core.List.{List, [], ◌∷◌, map}
use Prim.Native.Nat.{ℕ, zero, suc, ◌%◌}
use native.Mathlib.Omega.{arith}
use lib.IntN.{ℤ, pos, neg_ℤ, +ℤ-neg_ℤ_cancel, -ℤ-+ℤ_cancel}
use lib.ListN.{length, get_or, set}
use Rattle.tape.specs.declared.Step.{Step}
use Rattle.tape.specs.declared.Step.TheVariants.{Mul, Div, Swp}
use Rattle.tape.specs.Steps.{Distinct, Sound, AllSound}
use Rattle.matrices.specs.Matrices.{alternating_sum, without, minor, entry_at, determinant}
use Rattle.matrices.proofs.Laws.Determinants.{Row, entries, ◌⊕◌, ◌⊖◌, det4, flip_01, flip_12, flip_23, add_01}
use Rattle.matrices.proofs.Laws.Alternating.{added, flipped}
use Rattle.machine.specs.Machine.{inverse_step}
use Rattle.machine.specs.Ways.{count_where, is_swp}
use Rattle.machine.proofs.Laws.Lists.{of_four}
use Rattle.machine.proofs.Laws.Actions.{act, act_all, Undoes, length_act, act_inverse}
use Rattle.tables.specs.Tables.{table_of, sign_of}
use Rattle.tables.proofs.Laws.Rows.{zeros, row_step, row_steps, identity_rows, rows_four, table_rows}

-- the determinant of four rows
abbrev rows_determinant : List Row → ℤ
rows_determinant m = det4 (get_or m 0 zeros) (get_or m 1 zeros) (get_or m 2 zeros) (get_or m 3 zeros)

determinant_mul : (t s : ℕ) (m : List Row) → Distinct t s → length m ≡ 4 → rows_determinant (row_step (Mul t s) m) ≡ rows_determinant m
unfolding act
determinant_mul t s m a n =
    of_four (λ m. rows_determinant (set m t (get_or m t zeros ⊕ get_or m s zeros)) ≡ rows_determinant m)
    (added zeros ◌⊕◌ det4 flip_01 flip_12 flip_23 add_01 t s a.target_is_one a.source_is_one a.differ) m n

determinant_swp : (t s : ℕ) (m : List Row) → Sound (Swp t s) → length m ≡ 4 → rows_determinant (row_step (Swp t s) m) ≡ neg_ℤ (rows_determinant m)
unfolding act
determinant_swp t s m a n =
    of_four (λ m. rows_determinant (set (set m t (get_or m s zeros)) s (get_or m t zeros)) ≡ neg_ℤ (rows_determinant m))
    (flipped zeros ◌⊕◌ det4 flip_01 flip_12 flip_23 add_01 t s a.0.source_is_one a.1) m n

undoes : (r s : Row) → Undoes zeros ◌⊕◌ ◌⊖◌ r s
undoes r s = (fun_ext (λ j. +ℤ-neg_ℤ_cancel (r j) (s j)), fun_ext (λ j. -ℤ-+ℤ_cancel (r j) (s j)))

determinant_div : (t s : ℕ) (m : List Row) → Distinct t s → length m ≡ 4 → rows_determinant (row_step (Div t s) m) ≡ rows_determinant m
unfolding inverse_step
determinant_div t s m a n =
    sym (determinant_mul t s (row_step (Div t s) m) a (length_act zeros ◌⊕◌ ◌⊖◌ (Div t s) m ∙ n))
    ∙ ap rows_determinant (act_inverse zeros ◌⊕◌ ◌⊖◌ (Div t s) m a n (λ i j h k. undoes _ _))

-- ---- a number with its sign changed n times

turned : ℕ → ℤ → ℤ
turned zero z = z
turned (suc n) z = turned n (neg_ℤ z)

turned_sign : (n : ℕ) → turned n (pos 1) ≡ sign_of n
unfolding turned sign_of
turned_sign zero = refl
turned_sign (suc zero) = refl
turned_sign (suc (suc n)) = let e : n % 2 ≡ suc (suc n) % 2 = omega arith in rw (← e) (turned_sign n)

determinant_steps : (xs : List Step) (m : List Row) → AllSound xs → length m ≡ 4 → rows_determinant (row_steps xs m) ≡ turned (count_where is_swp xs) (rows_determinant m)
unfolding act_all count_where is_swp turned
determinant_steps [] m a n = refl
determinant_steps (x ∷ xs) m a n = determinant_steps xs (row_step x m) a.1 (length_act zeros ◌⊕◌ ◌⊖◌ x m ∙ n) ∙ go x a.0
  where
    go : (x : Step) → Sound x → turned (count_where is_swp xs) (rows_determinant (row_step x m)) ≡ turned (count_where is_swp (x ∷ xs)) (rows_determinant m)
    go (Mul t s) h = ap (turned (count_where is_swp xs)) (determinant_mul t s m h n)
    go (Div t s) h = ap (turned (count_where is_swp xs)) (determinant_div t s m h n)
    go (Swp t s) h = ap (turned (count_where is_swp xs)) (determinant_swp t s m h n)

determinant_is : (m : List Row) → length m ≡ 4 → determinant 4 (map entries m) ≡ rows_determinant m
unfolding det4
determinant_is = of_four (λ m. determinant 4 (map entries m) ≡ rows_determinant m) (λ a b c d. refl)

pub table_sign : (xs : List Step) → AllSound xs → determinant 4 (table_of xs) ≡ sign_of (count_where is_swp xs)
unfolding det4 determinant alternating_sum entry_at minor without
table_sign xs a =
    ap (determinant 4) (table_rows xs a)
    ∙ determinant_is (row_steps xs identity_rows) (rows_four xs)
    ∙ determinant_steps xs identity_rows a refl
    ∙ turned_sign (count_where is_swp xs)

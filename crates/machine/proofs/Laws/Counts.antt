-- How many steps of a list are mul, div and swp: every step is one of the three, so the counts add up to how many there are; and taken
-- back each step is the opposite one, in whatever order, so mul and div are exchanged.
use Rattle.std.specs.Prelude.{◌≢◌}
use mathlib.Core.Path.{◌≡◌, refl, ap, ◌∙◌}
use mathlib.Core.Bool.{Bool, true, false, cond}
use mathlib.Core.List.{List, [], ◌∷◌, ◌++◌}
use Prim.Native.Nat.{ℕ, suc, ◌+◌, ◌-◌, ◌≤◌, ◌<◌}
use native.Mathlib.Omega.{arith}
use native.Mathlib.Decide.{dec_lt}
use lib.ListN.{length, get_or, drop, drop_of_length-le}
use lib.Seq.{slice, length-slice}
use Rattle.tape.specs.declared.Step.{Step}
use Rattle.tape.specs.declared.Step.TheVariants.{Mul, Div, Swp}
use Rattle.tape.specs.declared.Opcode.{Opcode}
use Rattle.tape.specs.declared.Opcode.TheVariants.{Mul as ByMul, Div as ByDiv, Swp as BySwp}
use Rattle.tape.specs.Inner.Operations.{step_by}
use Rattle.tape.proofs.Laws.Rows.{drop_next}
use Rattle.machine.specs.Machine.{inverse_step, inverted}
use Rattle.machine.specs.Ways.{way, count_where, is_mul, is_div, is_swp, counts_of}
use Rattle.machine.specs.Inner.Kinds.{is_kind}
use Rattle.machine.proofs.Laws.Steps.{length_inverted}
use Rattle.machine.proofs.Laws.Ways.{way_forward, way_backward, way_here, way_back}

-- ---- one count

module _ (test : Step → Bool) where
  count_append : (xs ys : List Step) → count_where test (xs ++ ys) ≡ count_where test xs + count_where test ys
  unfolding count_where
  count_append [] ys = omega arith
  count_append (x ∷ xs) ys = go (test x) _ _ _ (count_append xs ys)
    where
      go : (b : Bool) (m k n : ℕ) → m ≡ k + n → cond b (suc m) m ≡ cond b (suc k) k + n
      go true m k n e = omega (arith, e)
      go false m k n e = e

  -- those of a list taken back, by what the opposite step is
  count_inverted : (other : Step → Bool) → ((x : Step) → test (inverse_step x) ≡ other x) → (xs : List Step) → count_where test (inverted xs) ≡ count_where other xs
  unfolding count_where inverted
  count_inverted other same [] = refl
  count_inverted other same (x ∷ xs) =
      count_append (inverted xs) (inverse_step x ∷ []) ∙ rw (same x, count_inverted other same xs) (go (other x) (count_where other xs))
    where
      go : (b : Bool) (n : ℕ) → n + cond b 1 0 ≡ cond b (suc n) n
      go true n = omega arith
      go false n = omega arith

  -- from one step of a list on, and behind its end
  module _ (xs : List Step) (i : ℕ) where
    pub count_next : (other : Step) → i < length xs → (b : Bool) → test (get_or xs i other) ≡ b
        → count_where test (drop i xs) ≡ cond b (suc (count_where test (drop (i + 1) xs))) (count_where test (drop (i + 1) xs))
    unfolding count_where
    count_next other inside b e = ap (count_where test) (drop_next xs i (i + 1) other refl inside) ∙ rw e

    pub count_end : length xs ≤ i → count_where test (drop i xs) ≡ 0
    unfolding count_where
    count_end past = ap (count_where test) (drop_of_length-le xs past)

-- a step is of the kind of its opcode, and of no other
pub kind_same : (o : Opcode) (t s : ℕ) → is_kind o (step_by o t s) ≡ true
unfolding is_kind is_mul is_div is_swp step_by
kind_same ByMul t s = refl
kind_same ByDiv t s = refl
kind_same BySwp t s = refl

pub kind_other : (k o : Opcode) (t s : ℕ) → o ≢ k → is_kind k (step_by o t s) ≡ false
unfolding is_kind is_mul is_div is_swp step_by
kind_other ByMul ByMul t s apart = absurd (apart refl)
kind_other ByMul ByDiv t s apart = refl
kind_other ByMul BySwp t s apart = refl
kind_other ByDiv ByMul t s apart = refl
kind_other ByDiv ByDiv t s apart = absurd (apart refl)
kind_other ByDiv BySwp t s apart = refl
kind_other BySwp ByMul t s apart = refl
kind_other BySwp ByDiv t s apart = refl
kind_other BySwp BySwp t s apart = absurd (apart refl)

-- ---- the three counts

counts_sum : (xs : List Step) → count_where is_mul xs + count_where is_div xs + count_where is_swp xs ≡ length xs
unfolding count_where is_mul is_div is_swp
counts_sum [] = refl
counts_sum (Mul t s ∷ xs) = omega (arith, counts_sum xs)
counts_sum (Div t s ∷ xs) = omega (arith, counts_sum xs)
counts_sum (Swp t s ∷ xs) = omega (arith, counts_sum xs)

pub counts_total : (xs : List Step) → get_or (counts_of xs) 0 0 + get_or (counts_of xs) 1 0 + get_or (counts_of xs) 2 0 ≡ length xs
unfolding counts_of
counts_total xs = counts_sum xs

-- so two of them tell the third
module _ (xs : List Step) where
  abbrev mul : ℕ
  mul = count_where (is_kind ByMul) xs

  abbrev div : ℕ
  div = count_where (is_kind ByDiv) xs

  pub kinds_within : mul + div ≤ length xs
  unfolding is_kind
  kinds_within = omega (arith, counts_sum xs)

  pub counts_by_kinds : mul ∷ div ∷ (length xs - mul - div) ∷ [] ≡ counts_of xs
  unfolding is_kind counts_of
  counts_by_kinds = let swp : length xs - mul - div ≡ count_where is_swp xs = omega (arith, counts_sum xs) in rw swp refl

undone_mul : (x : Step) → is_mul (inverse_step x) ≡ is_div x
unfolding is_mul is_div inverse_step
undone_mul (Mul t s) = refl
undone_mul (Div t s) = refl
undone_mul (Swp t s) = refl

undone_div : (x : Step) → is_div (inverse_step x) ≡ is_mul x
unfolding is_mul is_div inverse_step
undone_div (Mul t s) = refl
undone_div (Div t s) = refl
undone_div (Swp t s) = refl

undone_swp : (x : Step) → is_swp (inverse_step x) ≡ is_swp x
unfolding is_swp inverse_step
undone_swp (Mul t s) = refl
undone_swp (Div t s) = refl
undone_swp (Swp t s) = refl

-- taken back, mul and div are exchanged
abbrev pub exchanged : List ℕ → List ℕ
exchanged counts = get_or counts 1 0 ∷ get_or counts 0 0 ∷ get_or counts 2 0 ∷ []

pub counts_inverted : (xs : List Step) → counts_of (inverted xs) ≡ exchanged (counts_of xs)
unfolding counts_of
counts_inverted xs = rw (count_inverted is_mul is_div undone_mul xs, count_inverted is_div is_mul undone_div xs, count_inverted is_swp is_swp undone_swp xs) refl

-- ---- on the way from one position to another

module _ (xs : List Step) where
  -- from a position to itself
  pub counts_here : (i : ℕ) → counts_of (way xs i i) ≡ 0 ∷ 0 ∷ 0 ∷ []
  unfolding counts_of count_where
  counts_here i = ap counts_of (way_here xs i)

  -- the way back, against the way there
  pub counts_back : (i j : ℕ) → counts_of (way xs j i) ≡ exchanged (counts_of (way xs i j))
  counts_back i j = ap counts_of (way_back xs i j) ∙ counts_inverted (way xs i j)

  -- it has as many steps as the positions are apart
  pub way_length : (i j : ℕ) → i ≤ length xs → j ≤ length xs → length (way xs i j) ≡ (j - i) + (i - j)
  way_length i j from_inside goal_inside =
      elim (dec_lt j i) [
        | yes h ↦ ap length (way_backward xs i j h) ∙ length_inverted (slice j i xs) ∙ length-slice j i xs from_inside ∙ omega arith
        | no h ↦ ap length (way_forward xs i j (omega arith)) ∙ length-slice i j xs goal_inside ∙ omega arith
      ]

-- What a list of ranges of r, one for each h, must be, as a test that computes: each range begins one past the end of the one before, and ends
-- with the last r that its h reaches. So the first that does not end below r is that of r's h, the least that reaches r.
use mathlib.Core.Path.{◌≡◌, refl, sym, ◌∙◌}
use mathlib.Core.Bool.{Bool, true, false, ◌&&◌, cond, true≢false}
use mathlib.Core.List.{List, [], ◌∷◌}
use Prim.Native.Nat.{ℕ, zero, suc, min, ◌+◌, ◌-◌, ◌≤◌, ◌<◌, ◌^◌}
use native.Mathlib.Nat.{zero-add, min-eq_left}
use native.Mathlib.Omega.{arith}
use native.Mathlib.Decide.{dec_le}
use lib.Dec.{eqb, leb}
use lib.ListN.{length, get_or}
use borrow.Author.Tests.{eqb-true, le-leb, lt-leb}
use Rattle.refusal.proofs.Laws.Tests.{both}
use Rattle.fibonacci.specs.Fibonacci.{lucas, odd}
use Rattle.fibonacci.specs.Height.{reaches, height}
use Rattle.fibonacci.proofs.Laws.Height.{height_least, height_le}

-- the last r of 32 bits that h reaches
unfoldable pub last_of : ℕ → ℕ
last_of h = min (cond (odd h) (lucas h) (lucas h - 1)) (2 ^ 32 - 1)

-- for an r up to a limit it makes no difference to cut n down to the limit
leb_min : (r n : ℕ) {limit : ℕ} → r ≤ limit → leb r (min n limit) ≡ leb r n
leb_min r n {limit} l = elim (dec_le n limit) [
  | yes k ↦ rw (min-eq_left k)
  | no k ↦ le-leb r _ (omega arith) ∙ sym (le-leb r n (omega arith))
]

reaches_last : (r h : ℕ) → r < 2 ^ 32 → reaches r h ≡ leb r (last_of h)
unfolding reaches last_of
reaches_last r h small = go (odd h) ∙ sym (leb_min r _ (omega arith))
  where
    go : (t : Bool) → cond t (leb r (lucas h)) (leb r (lucas h - 1)) ≡ leb r (cond t (lucas h) (lucas h - 1))
    go true = refl
    go false = refl

-- a range from a given first r to the last of 32 bits that h reaches
unfoldable pub is_range : ℕ → ℕ → List ℕ → Bool
is_range first h range = eqb (get_or range 0 0) first && eqb (get_or range 1 0) (last_of h)

-- ranges for the numbers from h on: the first from a given r, each other one from past the end of the one before, until no r of 32 bits is left
unfoldable pub are_ranges : ℕ → ℕ → List (List ℕ) → Bool
are_ranges first h [] = eqb first (2 ^ 32)
are_ranges first h (range ∷ ranges) = is_range first h range && are_ranges (suc (get_or range 1 0)) (suc h) ranges

range_ends : (first h : ℕ) (range : List ℕ) → is_range first h range ≡ true → get_or range 1 0 ≡ last_of h
unfolding is_range
range_ends first h range t = eqb-true _ _ (both (eqb (get_or range 0 0) first) _ t).1

-- where a row's range ends
abbrev pub end_of : List (List ℕ) → ℕ → ℕ
end_of ranges row = get_or (get_or ranges row []) 1 0

row_ends :
    (ranges : List (List ℕ)) (first h row : ℕ) →
    are_ranges first h ranges ≡ true →
    row < length ranges →
    end_of ranges row ≡ last_of (row + h)
unfolding are_ranges
row_ends [] first h row rule inside = absurd (omega arith)
row_ends (range ∷ ranges) first h zero rule inside = rw (zero-add h) (range_ends first h range (both (is_range first h range) _ rule).0)
row_ends (range ∷ ranges) first h (suc row) rule inside =
    let next : suc row + h ≡ row + suc h = omega arith in
    rw next (row_ends ranges (suc (get_or range 1 0)) (suc h) row (both (is_range first h range) _ rule).1 (omega arith))

-- the search for r's h: the list passes the test, and h's range is none of those before this row
pub record Searching (r : ℕ) (ranges : List (List ℕ)) (row : ℕ) : Type 0 where
  pub rule : are_ranges 0 1 ranges ≡ true
  pub past : row < height r

pub searching_starts : (r : ℕ) (ranges : List (List ℕ)) → are_ranges 0 1 ranges ≡ true → Searching r ranges 0
searching_starts r ranges rule = record { rule = rule; past = (height_least r).from }

module _ {r : ℕ} {ranges : List (List ℕ)} {row : ℕ} (s : Searching r ranges row) (small : r < 2 ^ 32) (inside : row < length ranges) where
  row_tells : leb r (end_of ranges row) ≡ reaches r (row + 1)
  row_tells = rw (row_ends ranges 0 1 row s.rule inside) (sym (reaches_last r (row + 1) small))

  pub searching_next : end_of ranges row < r → Searching r ranges (row + 1)
  searching_next below =
      let fails : ¬ (height r ≡ row + 1) = λ e. true≢false (sym (height_least r).passes ∙ rw e (sym row_tells ∙ lt-leb _ _ below)) in
      record { rule = s.rule; past = omega (arith, s.past) }

  pub searching_ends : r ≤ end_of ranges row → row + 1 ≡ height r
  searching_ends reached = omega (arith, s.past, height_le r {j = row + 1} (omega arith) (sym row_tells ∙ le-leb _ _ reached))

-- h is the least positive number that reaches r: the search finds the first, and r + 1 reaches r, since L_(r+1) exceeds r.
-- ℓ', the least odd one, is h, or the number after it, which reaches r too.
use mathlib.Core.Path.{◌≡◌, refl, sym, ap, ◌∙◌}
use mathlib.Core.Bool.{Bool, true, false, not, ◌&&◌, cond, and-false, true≢false}
use Prim.Native.Nat.{ℕ, zero, suc, ◌+◌, ◌-◌, ◌≤◌, ◌<◌, ◌^◌}
use native.Mathlib.Nat.{le_refl}
use native.Mathlib.Omega.{arith}
use native.Mathlib.Decide.{dec_le, dec_lt}
use lib.ListN.{length}
use borrow.Author.Tests.{leb-true, le-leb}
use Rattle.fibonacci.specs.Fibonacci.{fib, lucas, odd}
use Rattle.fibonacci.specs.Forms.{zeckendorf}
use Rattle.fibonacci.specs.Height.{reaches, first_from, height, odd_height}
use Rattle.fibonacci.proofs.Laws.Fibonacci.{odd_next, lucas_grows, lucas_exceeds, lucas_positive, lucas_below_fib}
use Rattle.fibonacci.proofs.Laws.Zeckendorf.{zeckendorf_length}
use Rattle.refusal.proofs.Laws.Tests.{both}

-- ---- the test, as facts

pub reaches_odd : (r h : ℕ) → odd h ≡ true → r ≤ lucas h → reaches r h ≡ true
unfolding reaches
reaches_odd r h o l = rw o (le-leb r (lucas h) l)

pub reaches_even : (r h : ℕ) → odd h ≡ false → r < lucas h → reaches r h ≡ true
unfolding reaches
reaches_even r h o l = rw o (le-leb r (lucas h - 1) (omega arith))

pub odd_reaches : (r h : ℕ) → odd h ≡ true → reaches r h ≡ true → r ≤ lucas h
unfolding reaches
odd_reaches r h o e = leb-true r (lucas h) (rw o at e)

pub even_reaches : (r h : ℕ) → odd h ≡ false → 0 < lucas h → reaches r h ≡ true → r < lucas h
unfolding reaches
even_reaches r h o p e = omega (arith, leb-true r (lucas h - 1) (rw o at e))

-- ---- the first that passes a test

pub record First (f : ℕ → Bool) (i y : ℕ) : Type 0 where
  pub from : i ≤ y
  pub passes : f y ≡ true
  pub none_before : (j : ℕ) → i ≤ j → j < y → f j ≡ false

pub first_le : {f : ℕ → Bool} {i y j : ℕ} → First f i y → i ≤ j → f j ≡ true → y ≤ j
first_le {y = y} {j = j} s l e = elim (dec_le y j) [ yes k ↦ k | no k ↦ absurd (true≢false (sym e ∙ s.none_before j l (omega arith))) ]

pub first_unique : {f : ℕ → Bool} {i y z : ℕ} → First f i y → First f i z → y ≡ z
first_unique s t = omega (arith, first_le s t.from t.passes, first_le t s.from s.passes)

first_here : {f : ℕ → Bool} {i : ℕ} → f i ≡ true → First f i i
first_here {i = i} e = record { from = le_refl i; passes = e; none_before = λ j p q. absurd (omega arith) }

first_later : {f : ℕ → Bool} {i y : ℕ} → f i ≡ false → First f (suc i) y → First f i y
first_later {f} {i} {y} e s = record { from = omega (arith, s.from); passes = s.passes; none_before = λ j p q. go j p q (dec_le (suc i) j) }
  where
    go : (j : ℕ) → i ≤ j → j < y → Dec (suc i ≤ j) → f j ≡ false
    go j p q (yes k) = s.none_before j k q
    go j p q (no k) = let x : j ≡ i = omega arith in rw x e

-- the search finds it where one of the numbers from i to i + n passes
first_from_lem : (f : ℕ → Bool) (n i : ℕ) {w : ℕ} → i ≤ w → w ≤ i + n → f w ≡ true → First f i (first_from f n i)
unfolding first_from
first_from_lem f zero i {w} l u e = let x : w ≡ i = omega arith in first_here (rw x at e)
first_from_lem f (suc n) i {w} l u e = go (f i) refl (λ k. first_from_lem f n (suc i) k (omega arith) e)
  where
    go : (t : Bool) → f i ≡ t → (suc i ≤ w → First f (suc i) (first_from f n (suc i))) → First f i (first_from f (suc n) i)
    go true p s = rw (p, first_from) (first_here p)
    go false p s = rw (p, first_from) (elim (dec_le (suc i) w) [
      | yes k ↦ first_later p (s k)
      | no k ↦ let x : w ≡ i = omega arith in absurd (true≢false (sym e ∙ rw x p))
    ])

-- ---- h

by_parity : (r h : ℕ) → r < lucas h → reaches r h ≡ true
by_parity r h l = go (odd h) refl
  where
    go : (t : Bool) → odd h ≡ t → reaches r h ≡ true
    go true o = reaches_odd r h o (omega arith)
    go false o = reaches_even r h o l

reaches_next : (r : ℕ) → reaches r (suc r) ≡ true
reaches_next r = by_parity r (suc r) (omega (arith, lucas_exceeds (suc r)))

pub height_least : (r : ℕ) → First (reaches r) 1 (height r)
unfolding height
height_least r = first_from_lem (reaches r) r 1 {w = suc r} (omega arith) (omega arith) (reaches_next r)

pub height_le : (r : ℕ) {j : ℕ} → 0 < j → reaches r j ≡ true → height r ≤ j
height_le r p e = first_le (height_least r) p e

-- what reaches r leaves room for the form of every number below r
pub reaches_fib : (r h : ℕ) → 0 < h → reaches r h ≡ true → r ≤ fib (suc (suc h))
reaches_fib r h p e = go (odd h) refl
  where
    go : (t : Bool) → odd h ≡ t → r ≤ fib (suc (suc h))
    go true o = omega (arith, odd_reaches r h o e, lucas_below_fib h p)
    go false o = omega (arith, even_reaches r h o (lucas_positive h) e, lucas_below_fib h p)

pub zeckendorf_height : (r k : ℕ) → k < r → length (zeckendorf k) ≤ height r
zeckendorf_height r k l =
    let s : First (reaches r) 1 (height r) = height_least r in
    zeckendorf_length (height r) k (omega (arith, reaches_fib r (height r) s.from s.passes))

-- the moduli of format 1, and every 32-bit number
pub height_28 : (r : ℕ) → r < 2 ^ 28 → height r ≤ 41
unfolding reaches lucas
height_28 r h = height_le r {j = 41} (omega arith) (le-leb r 370248451 (omega arith))

pub height_32 : (r : ℕ) → r < 2 ^ 32 → height r ≤ 47
unfolding reaches lucas
height_32 r h = height_le r {j = 47} (omega arith) (le-leb r 6643838879 (omega arith))

-- ---- document 01's ℓ': h, or the number after it

-- the number after an even one that reaches r reaches it too
reaches_after : (r h : ℕ) → odd h ≡ false → 0 < h → reaches r h ≡ true → (odd (suc h) && reaches r (suc h)) ≡ true
reaches_after r h o p e =
    let q : odd (suc h) ≡ true = odd_next h ∙ ap not o in
    rw q (reaches_odd r (suc h) q (omega (arith, even_reaches r h o (lucas_positive h) e, lucas_grows h p)))

-- from the first that reaches r, the first odd one
first_odd : (r h : ℕ) → First (reaches r) 1 h → First (λ (l : ℕ). odd l && reaches r l) 1 (cond (odd h) h (suc h))
first_odd r h s = go (odd h) refl
  where
    go : (t : Bool) → odd h ≡ t → First (λ (l : ℕ). odd l && reaches r l) 1 (cond t h (suc h))
    go true o = record {
      from = s.from;
      passes = rw o s.passes;
      none_before = λ j p q. rw (s.none_before j p q) (and-false (odd j));
    }
    go false o = record {
      from = omega (arith, s.from);
      passes = reaches_after r h o s.from s.passes;
      none_before = λ j p q. before j p q (dec_lt j h);
    }
      where
        before : (j : ℕ) → 1 ≤ j → j < suc h → Dec (j < h) → (odd j && reaches r j) ≡ false
        before j p q (yes k) = rw (s.none_before j p k) (and-false (odd j))
        before j p q (no k) = let x : j ≡ h = omega arith in rw (x, o)

or_next_le : (t : Bool) (h : ℕ) → cond t h (suc h) ≤ h + 1
or_next_le true h = omega arith
or_next_le false h = omega arith

pub odd_height_least : (r : ℕ) → First (λ (l : ℕ). odd l && reaches r l) 1 (odd_height r)
unfolding odd_height
odd_height_least r =
    let s = first_odd r (height r) (height_least r) in
    first_from_lem (λ (l : ℕ). odd l && reaches r l) (suc r) 1 s.from
    (omega (arith, or_next_le (odd (height r)) (height r), height_le r {j = suc r} (omega arith) (reaches_next r)))
    s.passes

pub odd_height_is : (r : ℕ) → odd_height r ≡ cond (odd (height r)) (height r) (suc (height r))
odd_height_is r = first_unique (odd_height_least r) (first_odd r (height r) (height_least r))

pub odd_height_odd : (r : ℕ) → odd (odd_height r) ≡ true
odd_height_odd r = (both (odd (odd_height r)) (reaches r (odd_height r)) (odd_height_least r).passes).0

pub odd_height_reaches : (r : ℕ) → reaches r (odd_height r) ≡ true
odd_height_reaches r = (both (odd (odd_height r)) (reaches r (odd_height r)) (odd_height_least r).passes).1

pub odd_height_le : (r : ℕ) → odd_height r ≤ height r + 1
odd_height_le r = rw (odd_height_is r) (or_next_le (odd (height r)) (height r))

pub height_le_odd : (r : ℕ) → height r ≤ odd_height r
height_le_odd r = height_le r (odd_height_least r).from (odd_height_reaches r)

-- for the moduli of format 1 no higher than h, since 41 is odd
pub odd_height_28 : (r : ℕ) → r < 2 ^ 28 → odd_height r ≤ 41
unfolding reaches lucas
odd_height_28 r h = first_le {j = 41} (odd_height_least r) (omega arith) (le-leb r 370248451 (omega arith))

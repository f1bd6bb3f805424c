-- A determinant changes its sign where two neighbouring rows are exchanged: of the first two by multiplying out, of others by the expansion
-- along the rows above. So it is 0 where two are equal, and stays where the second row is added to the first. Rows are functions of the
-- column here, so that none has a length.
use mathlib.Core.Path.{◌≡◌, refl, sym, ap, ap₂, ◌∙◌}
use mathlib.Core.List.{List, [], ◌∷◌}
use Prim.Native.Nat.{ℕ, zero, suc}
use lib.IntN.{ℤ, pos, negsuc, neg_ℤ, ◌+ℤ◌, ◌-ℤ◌, ◌*ℤ◌, neg_ℤ-+ℤ, +ℤ_idr}
use Rattle.matrices.specs.Matrices.{alternating_sum, without, minor, entry_at, determinant}
use Rattle.matrices.proofs.Laws.Rings.{sums, sum_times, times_sum, times_opposite, times_left}

-- ---- the determinant of a matrix by row and column

-- column k of a matrix without column j
abbrev skip : ℕ → ℕ → ℕ
skip zero k = suc k
skip (suc j) zero = zero
skip (suc j) (suc k) = suc (skip j k)

unfoldable det : ℕ → (ℕ → ℕ → ℤ) → ℤ
det zero m = pos 1
det (suc n) m = alternating_sum (suc n) (λ j. m 0 j *ℤ det n (λ i k. m (suc i) (skip j k)))

-- rows k and k + 1 exchanged
abbrev next : ℕ → ℕ → ℕ
next zero zero = 1
next zero (suc zero) = 0
next zero (suc (suc i)) = suc (suc i)
next (suc k) zero = zero
next (suc k) (suc i) = suc (next k i)

abbrev Flips : ℕ → ℕ → Type 0
Flips n k = (m : ℕ → ℕ → ℤ) → det n (λ i. m (next k i)) ≡ neg_ℤ (det n m)

-- ---- the first two rows exchanged; the letters from m on stand for the determinants below them

ruleset expanded = (times_sum, times_opposite, times_left, sums)

exchange_2 : (a b c d m : ℤ)
    → a *ℤ (d *ℤ m -ℤ pos 0) -ℤ (b *ℤ (c *ℤ m -ℤ pos 0) -ℤ pos 0) ≡ neg_ℤ (c *ℤ (b *ℤ m -ℤ pos 0) -ℤ (d *ℤ (a *ℤ m -ℤ pos 0) -ℤ pos 0))
exchange_2 a b c d m = simp expanded

exchange_3 : (a b c d e f m n o : ℤ)
    → a *ℤ (e *ℤ m -ℤ (f *ℤ n -ℤ pos 0)) -ℤ (b *ℤ (d *ℤ m -ℤ (f *ℤ o -ℤ pos 0)) -ℤ (c *ℤ (d *ℤ n -ℤ (e *ℤ o -ℤ pos 0)) -ℤ pos 0))
    ≡ neg_ℤ (d *ℤ (b *ℤ m -ℤ (c *ℤ n -ℤ pos 0)) -ℤ (e *ℤ (a *ℤ m -ℤ (c *ℤ o -ℤ pos 0)) -ℤ (f *ℤ (a *ℤ n -ℤ (b *ℤ o -ℤ pos 0)) -ℤ pos 0)))
exchange_3 a b c d e f m n o = simp expanded

exchange_4 : (a b c d e f g h m n o p q r : ℤ)
    → a *ℤ (f *ℤ m -ℤ (g *ℤ n -ℤ (h *ℤ o -ℤ pos 0)))
    -ℤ (b *ℤ (e *ℤ m -ℤ (g *ℤ p -ℤ (h *ℤ q -ℤ pos 0)))
    -ℤ (c *ℤ (e *ℤ n -ℤ (f *ℤ p -ℤ (h *ℤ r -ℤ pos 0)))
    -ℤ (d *ℤ (e *ℤ o -ℤ (f *ℤ q -ℤ (g *ℤ r -ℤ pos 0))) -ℤ pos 0)))
    ≡ neg_ℤ
    (e *ℤ (b *ℤ m -ℤ (c *ℤ n -ℤ (d *ℤ o -ℤ pos 0)))
    -ℤ (f *ℤ (a *ℤ m -ℤ (c *ℤ p -ℤ (d *ℤ q -ℤ pos 0)))
    -ℤ (g *ℤ (a *ℤ n -ℤ (b *ℤ p -ℤ (d *ℤ r -ℤ pos 0)))
    -ℤ (h *ℤ (a *ℤ o -ℤ (b *ℤ q -ℤ (c *ℤ r -ℤ pos 0))) -ℤ pos 0))))
exchange_4 a b c d e f g h m n o p q r = simp expanded

flips_2 : Flips 2 0
unfolding det alternating_sum
flips_2 m = exchange_2 (m 1 0) (m 1 1) (m 0 0) (m 0 1) _

flips_3 : Flips 3 0
unfolding det alternating_sum
flips_3 m = exchange_3 (m 1 0) (m 1 1) (m 1 2) (m 0 0) (m 0 1) (m 0 2) _ _ _

flips_4 : Flips 4 0
unfolding det alternating_sum
flips_4 m = exchange_4 (m 1 0) (m 1 1) (m 1 2) (m 1 3) (m 0 0) (m 0 1) (m 0 2) (m 0 3) _ _ _ _ _ _

-- ---- two neighbours below the first row

alternating_opposite : (n : ℕ) (f g : ℕ → ℤ) → ((j : ℕ) → f j ≡ neg_ℤ (g j)) → alternating_sum n f ≡ neg_ℤ (alternating_sum n g)
unfolding alternating_sum
alternating_opposite zero f g h = refl
alternating_opposite (suc n) f g h =
    ap₂ ◌-ℤ◌ (h 0) (alternating_opposite n (λ j. f (suc j)) (λ j. g (suc j)) (λ j. h (suc j)))
    ∙ sym (neg_ℤ-+ℤ (g 0) (neg_ℤ (alternating_sum n (λ j. g (suc j)))))

flips_below : (n k : ℕ) → Flips n k → Flips (suc n) (suc k)
unfolding det
flips_below n k h m =
    alternating_opposite (suc n) _ _
    (λ j. ap (λ x. m 0 j *ℤ x) (h (λ i l. m (suc i) (skip j l))) ∙ times_opposite (m 0 j) (det n (λ i l. m (suc i) (skip j l))))

-- ---- four rows

abbrev pub Row : Type 0
Row = ℕ → ℤ

-- a row's four entries
abbrev pub entries : Row → List ℤ
entries r = r 0 ∷ r 1 ∷ r 2 ∷ r 3 ∷ []

infixl 6 ◌⊕◌ ◌⊖◌
abbrev pub ◌⊕◌ : Row → Row → Row
r ⊕ s = λ j. r j +ℤ s j

abbrev pub ◌⊖◌ : Row → Row → Row
r ⊖ s = λ j. r j -ℤ s j

unfoldable pub det4 : Row → Row → Row → Row → ℤ
det4 a b c d = determinant 4 (entries a ∷ entries b ∷ entries c ∷ entries d ∷ [])

abbrev rows : Row → Row → Row → Row → ℕ → Row
rows a b c d zero = a
rows a b c d (suc zero) = b
rows a b c d (suc (suc zero)) = c
rows a b c d (suc (suc (suc i))) = d

module _ (a b c d : Row) where
  pub flip_01 : det4 b a c d ≡ neg_ℤ (det4 a b c d)
  unfolding det4 det alternating_sum determinant entry_at minor without
  flip_01 = flips_4 (rows a b c d)

  pub flip_12 : det4 a c b d ≡ neg_ℤ (det4 a b c d)
  unfolding det4 det alternating_sum determinant entry_at minor without
  flip_12 = flips_below 3 0 flips_3 (rows a b c d)

  pub flip_23 : det4 a b d c ≡ neg_ℤ (det4 a b c d)
  unfolding det4 det alternating_sum determinant entry_at minor without
  flip_23 = flips_below 3 1 (flips_below 2 0 flips_2) (rows a b c d)

own_opposite : (z : ℤ) → z ≡ neg_ℤ z → z ≡ pos 0
own_opposite (pos zero) e = refl
own_opposite (pos (suc n)) e = cc
own_opposite (negsuc n) e = cc

-- the first row a sum; the letters from m on stand for the determinants below it
additive : (a b c d e f g h m n o p : ℤ)
    → (a +ℤ e) *ℤ m -ℤ ((b +ℤ f) *ℤ n -ℤ ((c +ℤ g) *ℤ o -ℤ ((d +ℤ h) *ℤ p -ℤ pos 0)))
    ≡ (a *ℤ m -ℤ (b *ℤ n -ℤ (c *ℤ o -ℤ (d *ℤ p -ℤ pos 0)))) +ℤ (e *ℤ m -ℤ (f *ℤ n -ℤ (g *ℤ o -ℤ (h *ℤ p -ℤ pos 0))))
additive a b c d e f g h m n o p = simp (sum_times, sums)

pub add_01 : (a b c d : Row) → det4 (a ⊕ b) b c d ≡ det4 a b c d
unfolding det4 alternating_sum determinant entry_at minor
add_01 a b c d =
    additive (a 0) (a 1) (a 2) (a 3) (b 0) (b 1) (b 2) (b 3) _ _ _ _
    ∙ ap (λ x. det4 a b c d +ℤ x) (own_opposite (det4 b b c d) (flip_01 b b c d))
    ∙ +ℤ_idr (det4 a b c d)

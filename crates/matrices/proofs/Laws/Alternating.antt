-- A function of four that changes its sign where two neighbours are exchanged, and that stays where the second is added to the first, changes
-- its sign where any two are exchanged, and stays where any is added to another: each case is brought to a neighbouring one.
use mathlib.Core.Path.{◌≡◌, refl, sym, ap, ◌∙◌}
use mathlib.Core.Logic.{◌≢◌}
use mathlib.Core.List.{List, [], ◌∷◌}
use Prim.Native.Nat.{ℕ, ◌<◌, ◌≤◌}
use native.Mathlib.Omega.{arith}
use lib.ListN.{get_or, set}
use lib.IntN.{ℤ, neg_ℤ, neg_ℤ-neg_ℤ}
use Rattle.matrices.proofs.Laws.Below.{each_below_4}

module _ {A : Type 0} (default : A) (plus : A → A → A) (D : A → A → A → A → ℤ)
    (flip_01 : (a b c d : A) → D b a c d ≡ neg_ℤ (D a b c d))
    (flip_12 : (a b c d : A) → D a c b d ≡ neg_ℤ (D a b c d))
    (flip_23 : (a b c d : A) → D a b d c ≡ neg_ℤ (D a b c d))
    (add_01 : (a b c d : A) → D (plus a b) b c d ≡ D a b c d) where
  -- an equation carried through an exchange of neighbours
  module _ {a b c d a' b' c' d' : A} where
    by_01 : D b a c d ≡ D b' a' c' d' → D a b c d ≡ D a' b' c' d'
    by_01 e = flip_01 b a c d ∙ ap neg_ℤ e ∙ sym (flip_01 b' a' c' d')

    by_12 : D a c b d ≡ D a' c' b' d' → D a b c d ≡ D a' b' c' d'
    by_12 e = flip_12 a c b d ∙ ap neg_ℤ e ∙ sym (flip_12 a' c' b' d')

    by_23 : D a b d c ≡ D a' b' d' c' → D a b c d ≡ D a' b' c' d'
    by_23 e = flip_23 a b d c ∙ ap neg_ℤ e ∙ sym (flip_23 a' b' d' c')

  -- of a list's first four
  abbrev on_list : List A → ℤ
  on_list m = D (get_or m 0 default) (get_or m 1 default) (get_or m 2 default) (get_or m 3 default)

  -- entry s added to entry t
  abbrev Stays : ℕ → ℕ → Type 0
  Stays t s = (a b c d : A) → let m = a ∷ b ∷ c ∷ d ∷ [] in on_list (set m t (plus (get_or m t default) (get_or m s default))) ≡ on_list m

  -- the two exchanged
  abbrev Flips : ℕ → ℕ → Type 0
  Flips t s = (a b c d : A) → let m = a ∷ b ∷ c ∷ d ∷ [] in on_list (set (set m t (get_or m s default)) s (get_or m t default)) ≡ neg_ℤ (on_list m)

  add_02 : Stays 0 2
  add_02 a b c d = by_12 (add_01 a c b d)

  add_03 : Stays 0 3
  add_03 a b c d = by_23 (add_02 a b d c)

  add_10 : Stays 1 0
  add_10 a b c d = by_01 (add_01 b a c d)

  add_12 : Stays 1 2
  add_12 a b c d = by_01 (add_02 b a c d)

  add_13 : Stays 1 3
  add_13 a b c d = by_01 (add_03 b a c d)

  add_20 : Stays 2 0
  add_20 a b c d = by_12 (add_10 a c b d)

  add_21 : Stays 2 1
  add_21 a b c d = by_12 (add_12 a c b d)

  add_23 : Stays 2 3
  add_23 a b c d = by_12 (add_13 a c b d)

  add_30 : Stays 3 0
  add_30 a b c d = by_23 (add_20 a b d c)

  add_31 : Stays 3 1
  add_31 a b c d = by_23 (add_21 a b d c)

  add_32 : Stays 3 2
  add_32 a b c d = by_23 (add_23 a b d c)

  flip_02 : Flips 0 2
  flip_02 a b c d = flip_01 b c a d ∙ ap neg_ℤ (flip_12 b a c d ∙ ap neg_ℤ (flip_01 a b c d) ∙ neg_ℤ-neg_ℤ (D a b c d))

  flip_13 : Flips 1 3
  flip_13 a b c d = flip_12 a c d b ∙ ap neg_ℤ (flip_23 a c b d ∙ ap neg_ℤ (flip_12 a b c d) ∙ neg_ℤ-neg_ℤ (D a b c d))

  flip_03 : Flips 0 3
  flip_03 a b c d = flip_01 b d c a ∙ ap neg_ℤ (flip_13 b a c d ∙ ap neg_ℤ (flip_01 a b c d) ∙ neg_ℤ-neg_ℤ (D a b c d))

  same : {t s : ℕ} → t ≡ s → t ≢ s → Stays t s
  same e ne = absurd (ne e)

  pub added : (t s : ℕ) → t < 4 → s < 4 → t ≢ s → Stays t s
  added t s h k =
      each_below_4 (λ t. t ≢ s → Stays t s)
      (each_below_4 (λ s. 0 ≢ s → Stays 0 s) (same refl) (λ ne. add_01) (λ ne. add_02) (λ ne. add_03) s k)
      (each_below_4 (λ s. 1 ≢ s → Stays 1 s) (λ ne. add_10) (same refl) (λ ne. add_12) (λ ne. add_13) s k)
      (each_below_4 (λ s. 2 ≢ s → Stays 2 s) (λ ne. add_20) (λ ne. add_21) (same refl) (λ ne. add_23) s k)
      (each_below_4 (λ s. 3 ≢ s → Stays 3 s) (λ ne. add_30) (λ ne. add_31) (λ ne. add_32) (same refl) s k) t h

  -- no number is below one that isn't above it
  none : {t s : ℕ} → s ≤ t → t < s → Flips t s
  none above less = absurd (omega arith)

  pub flipped : (t s : ℕ) → s < 4 → t < s → Flips t s
  flipped t s k less =
      let t_below : t < 4 = omega arith in
      each_below_4 (λ s. t < s → Flips t s)
      (none (omega arith))
      (each_below_4 (λ t. t < 1 → Flips t 1) (λ l. flip_01) (none (omega arith)) (none (omega arith)) (none (omega arith)) t t_below)
      (each_below_4 (λ t. t < 2 → Flips t 2) (λ l. flip_02) (λ l. flip_12) (none (omega arith)) (none (omega arith)) t t_below)
      (each_below_4 (λ t. t < 3 → Flips t 3) (λ l. flip_03) (λ l. flip_13) (λ l. flip_23) (none (omega arith)) t t_below) s k less

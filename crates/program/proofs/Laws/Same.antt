-- Comparing two rows of words: equal rows are the same, rows of different lengths are not, and `==` on slices is the test.
use mathlib.Core.Path.{◌≡◌, refl, ap, ap₂}
use Rattle.std.proofs.Common.{nat_eq}
use Rattle.std.specs.Cmp.Lexicographic.{pointwise}
use mathlib.Core.Bool.{Bool, true, false, ◌&&◌}
use mathlib.Core.List.{List, [], ◌∷◌}
use Prim.Native.Nat.{ℕ}
use native.Mathlib.Omega.{arith}
use lib.Dec.{eqb}
use lib.ListN.{length}
use borrow.Author.Tests.{eqb-true, eq-eqb}
use Rattle.refusal.proofs.Laws.Tests.{both, test_false}
use Rattle.program.specs.Same.{same_words}

pub same_itself : (ws : List ℕ) → same_words ws ws ≡ true
unfolding same_words
same_itself [] = refl
same_itself (w ∷ ws) = rw (eq-eqb w w refl) (same_itself ws)

pub same_equal : (vs ws : List ℕ) → same_words vs ws ≡ true → vs ≡ ws
unfolding same_words
same_equal [] [] e = refl
same_equal [] (w ∷ ws) e = absurd (let z : ◌≡◌ {A = ℕ} 0 1 = cc in omega arith)
same_equal (v ∷ vs) [] e = absurd (let z : ◌≡◌ {A = ℕ} 0 1 = cc in omega arith)
same_equal (v ∷ vs) (w ∷ ws) e = let t = both (eqb v w) (same_words vs ws) e in ap₂ ◌∷◌ (eqb-true v w t.0) (same_equal vs ws t.1)

pub same_lengths : (vs ws : List ℕ) → ¬ (length vs ≡ length ws) → same_words vs ws ≡ false
same_lengths vs ws differ = test_false (same_words vs ws) (λ e. differ (ap length (same_equal vs ws e)))

-- `==` on slices is the same test
pub pointwise_same : (vs ws : List ℕ) → pointwise nat_eq vs ws ≡ same_words vs ws
unfolding same_words
pointwise_same [] [] = refl
pointwise_same [] (w ∷ ws) = refl
pointwise_same (v ∷ vs) [] = refl
pointwise_same (v ∷ vs) (w ∷ ws) = ap (λ (b : Bool). eqb v w && b) (pointwise_same vs ws)

-- The least of the numbers that are zero where an entry divides p: it is zero where one is.
use mathlib.Core.Path.{◌≡◌, subst}
use mathlib.Core.List.{List}
use Prim.Native.Nat.{ℕ, min, ◌+◌, ◌<◌, ◌∣◌}
use native.Mathlib.Omega.{arith}
use native.Mathlib.Decide.{dec_lt}
use lib.Dec.{eqb}
use lib.ListN.{length, get_or}
use borrow.Author.Tests.{eqb-true, eqb-false}
use Rattle.divisors.specs.Small.{limit}
use Rattle.divisors.specs.Inner.Inverted.{Inverses, ZeroWhereDivided, DividedByOne}

-- of the first i entries
pub record LeastOf (ds : List ℕ) (p i least : ℕ) : Type 0 where
  pub some : least ≡ 0 → (j : ℕ) × (j < i) × (get_or ds j 0 ∣ p)
  pub none : ¬ (least ≡ 0) → (j : ℕ) → j < i → ¬ (get_or ds j 0 ∣ p)

module _ (ds : List ℕ) (p : ℕ) where
  pub least_start : LeastOf ds p 0 65535
  least_start = record { some = λ z. absurd (omega arith); none = λ z j before. absurd (omega arith) }

  -- with the next, the lesser of the two
  pub least_more : (i least r : ℕ) → LeastOf ds p i least → ZeroWhereDivided p (get_or ds i 0) r → LeastOf ds p (i + 1) (min least r)
  least_more i least r l h = record { some = some; none = none }
    where
      some : min least r ≡ 0 → (j : ℕ) × (j < i + 1) × (get_or ds j 0 ∣ p)
      some z = elim (dec_lt 0 r) [
        | yes k ↦ let at : (j : ℕ) × (j < i) × (get_or ds j 0 ∣ p) = l.some (omega arith) in (at.0, omega arith, at.2)
        | no k ↦ (i, omega arith, h.divides (omega arith))
      ]

      none : ¬ (min least r ≡ 0) → (j : ℕ) → j < i + 1 → ¬ (get_or ds j 0 ∣ p)
      none z j before d =
          elim (dec_lt j i) [
            | yes k ↦ l.none (λ e. z (omega arith)) j k d
            | no k ↦
                let same : j ≡ i = omega arith in
                z (omega (arith, h.zero (subst (λ (n : ℕ). get_or ds n 0 ∣ p) same d)))
          ]

  -- the least of all
  pub least_end : {xs : List ℕ} (i least : ℕ) → limit < p → Inverses ds xs → i ≡ length ds → LeastOf ds p i least → DividedByOne ds p (eqb least 0)
  least_end i least above v all l =
      record {
        some = λ e.
            let at : (j : ℕ) × (j < i) × (get_or ds j 0 ∣ p) = l.some (eqb-true least 0 e) in
            let d = v.each at.0 (omega arith) in
            (_, record { low = d.low; high = d.high; less = omega arith; divides = at.2 });
        none = λ e j inside. l.none (eqb-false least 0 e) j (omega arith);
      }

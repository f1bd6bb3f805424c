-- The test for a small divisor says whether there is one: what the search finds above 1 is one, and it finds no less than any.
use mathlib.Core.Path.{◌≡◌, refl, sym, ◌∙◌}
use mathlib.Core.Bool.{Bool, true, false, ◌&&◌, false≢true, true≢false}
use Prim.Native.Nat.{ℕ, ◌-◌, ◌%◌, ◌<◌}
use native.Mathlib.Nat.{dvd_of_mod-eq-zero, mod-eq-zero_of_dvd}
use native.Mathlib.Omega.{arith}
use lib.Dec.{leb}
use borrow.Author.Tests.{eqb-true, eq-eqb, leb-true, le-leb, ltb-true, lt-ltb}
use Rattle.divisors.specs.Search.{greatest, divides}
use Rattle.divisors.specs.Small.{limit, SmallDivisor, has_small_divisor}
use Rattle.divisors.proofs.Laws.Search.{greatest_at_most, greatest_passes, greatest_most}
use Rattle.refusal.proofs.Laws.Tests.{both, and_both, test_false}

pub small_found : (p : ℕ) → has_small_divisor p ≡ true → (d : ℕ) × SmallDivisor p d
unfolding has_small_divisor
small_found p e =
    let f : ℕ → Bool = λ (d : ℕ). leb d limit && divides d p in
    let d : ℕ = greatest f (p - 1) in
    let low : 1 < d = ltb-true 1 d e in
    let tests : (leb d limit ≡ true) × (divides d p ≡ true) = both _ _ (greatest_passes f (p - 1) (omega arith)) in (
      d,
      record {
        low = omega arith;
        high = leb-true d limit tests.0;
        less = omega (arith, greatest_at_most f (p - 1));
        divides = dvd_of_mod-eq-zero d (eqb-true (p % d) 0 tests.1);
      },
    )

pub small_test : (p d : ℕ) → SmallDivisor p d → has_small_divisor p ≡ true
unfolding has_small_divisor
small_test p d s =
    let f : ℕ → Bool = λ (d : ℕ). leb d limit && divides d p in
    let passes : f d ≡ true = and_both _ _ (le-leb d limit s.high) (eq-eqb (p % d) 0 (mod-eq-zero_of_dvd d s.divides)) in
    lt-ltb 1 (greatest f (p - 1)) (omega (arith, s.low, greatest_most f (p - 1) d (omega (arith, s.low)) (omega (arith, s.less)) passes))

pub small_none : (p : ℕ) → has_small_divisor p ≡ false → (d : ℕ) → ¬ (SmallDivisor p d)
small_none p e d s = true≢false (sym (small_test p d s) ∙ e)

-- an answer that tells whether there is one
pub small_told : (p : ℕ) (found : Bool) → (found ≡ true → (d : ℕ) × SmallDivisor p d) → (found ≡ false → (d : ℕ) → ¬ (SmallDivisor p d)) → found ≡ has_small_divisor p
small_told p true some none = let s : (d : ℕ) × SmallDivisor p d = some refl in sym (small_test p s.0 s.1)
small_told p false some none =
    sym (test_false (has_small_divisor p) (λ e. let s : (d : ℕ) × SmallDivisor p d = small_found p e in none refl s.0 s.1))

pub none_told : (p : ℕ) → ((d : ℕ) → ¬ (SmallDivisor p d)) → false ≡ has_small_divisor p
none_told p none = small_told p false (λ e. absurd (false≢true e)) (λ e. none)

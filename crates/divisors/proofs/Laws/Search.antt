-- Laws of the bounded search: what it finds passes, nothing above that does, and 0 says that nothing passes at all.
-- Each goes down from n: either n passes and is what is found, or it may be left out.
use mathlib.Core.Path.{◌≡◌, sym, ◌∙◌, ap}
use mathlib.Core.Bool.{Bool, true, false, true≢false}
use Prim.Native.Nat.{ℕ, zero, suc, ◌≤◌, ◌<◌}
use native.Mathlib.Nat.{eq-or-lt_of_le}
use native.Mathlib.Omega.{arith}
use mathlib.Core.Logic.{⊎_elim}
use Rattle.divisors.specs.Search.{greatest}
use Rattle.refusal.proofs.Laws.Tests.{by_test}

found : (f : ℕ → Bool) (n : ℕ) → f (suc n) ≡ true → greatest f (suc n) ≡ suc n
unfolding greatest
found f n e = rw (e, greatest)

left : (f : ℕ → Bool) (n : ℕ) → f (suc n) ≡ false → greatest f (suc n) ≡ greatest f n
unfolding greatest
left f n e = rw (e, greatest)

pub greatest_at_most : (f : ℕ → Bool) (n : ℕ) → greatest f n ≤ n
unfolding greatest
greatest_at_most f zero = omega arith
greatest_at_most f (suc n) =
    let below : greatest f n ≤ n = greatest_at_most f n in
    by_test (f (suc n)) (λ e. omega (arith, found f n e)) (λ e. omega (arith, left f n e))

pub greatest_passes : (f : ℕ → Bool) (n : ℕ) → 1 ≤ greatest f n → f (greatest f n) ≡ true
unfolding greatest
greatest_passes f zero some = absurd (omega arith)
greatest_passes f (suc n) some =
    let below : 1 ≤ greatest f n → f (greatest f n) ≡ true = greatest_passes f n in
    by_test (f (suc n))
    (λ e. ap f (found f n e) ∙ e)
    (λ e. ap f (left f n e) ∙ below (omega (arith, left f n e)))

pub greatest_most : (f : ℕ → Bool) (n y : ℕ) → 1 ≤ y → y ≤ n → f y ≡ true → y ≤ greatest f n
greatest_most f zero y low high passes = absurd (omega arith)
greatest_most f (suc n) y low high passes =
    let below : y ≤ n → y ≤ greatest f n = λ h. greatest_most f n y low h passes in
    let other : f (suc n) ≡ false → ¬ (y ≡ suc n) = λ e q. true≢false (sym passes ∙ ap f q ∙ e) in
    by_test (f (suc n))
    (λ e. omega (arith, found f n e))
    (λ e. omega (arith, left f n e, below (omega (arith, other e))))

-- y passes, and nothing above it up to n does
pub greatest_is : (f : ℕ → Bool) (n y : ℕ) → 1 ≤ y → y ≤ n → f y ≡ true → ((z : ℕ) → y < z → z ≤ n → ¬ (f z ≡ true)) → greatest f n ≡ y
greatest_is f n y low high passes none =
    let most : y ≤ greatest f n = greatest_most f n y low high passes in
    ⊎_elim
    (λ e. sym e)
    (λ l. absurd (none (greatest f n) l (greatest_at_most f n) (greatest_passes f n (omega arith))))
    (eq-or-lt_of_le most)

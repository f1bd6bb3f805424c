-- A list covers the odd numbers from e on, as one test computes: each is next in the list, or has a smaller divisor. Then a number
-- that none of the listed divides has no small divisor as far as the list goes, since the least it could have is listed.
use mathlib.Core.Path.{◌≡◌, subst}
use mathlib.Core.Bool.{Bool, true, false, ◌&&◌, false≢true}
use mathlib.Core.List.{List, [], ◌∷◌}
use Prim.Native.Nat.{ℕ, zero, suc, ◌+◌, ◌*◌, ◌/◌, ◌%◌, ◌≤◌, ◌<◌, ◌∣◌}
use native.Mathlib.Nat.{div-mul_cancel, dvd-mul_right, dvd_of_mod-eq-zero, dvd_trans, mod-eq-zero_of_dvd, mul-le-mul_left, mul-le-mul_right}
use native.Mathlib.Omega.{arith}
use native.Mathlib.Decide.{ℕ_discrete, dec_lt}
use lib.Dec.{eqb, ltb}
use lib.ListN.{length, get_or}
use borrow.Author.Tests.{eqb-true, ltb-true, ltb-false}
use Rattle.divisors.specs.Small.{limit, SmallDivisor, has_small_divisor}
use Rattle.divisors.specs.Inner.Inverted.{NoneBelow, DividedByOne}
use Rattle.refusal.proofs.Laws.Tests.{by_test, both}
use Rattle.divisors.proofs.Laws.Quotients.{no_multiple, cofactor_two}
use Rattle.divisors.proofs.Laws.Small.{small_told}

-- the first of the numbers fs that divides e is from 2 to e - 1
unfoldable pub divided_by : List ℕ → ℕ → Bool
divided_by [] e = false
divided_by (f ∷ fs) e = elim (eqb (e % f) 0) [ true ↦ ltb 1 f && ltb f e | false ↦ divided_by fs e ]

-- the n odd numbers from e on: each is at the front of what is left of the list, or has a divisor among fs
unfoldable pub covers : List ℕ → ℕ → ℕ → List ℕ → Bool
covers fs zero e ds = true
covers fs (suc n) e [] = divided_by fs e && covers fs n (e + 2) []
covers fs (suc n) e (d ∷ ds) =
    elim (eqb e d) [
      | true ↦ covers fs n (e + 2) ds
      | false ↦ divided_by fs e && covers fs n (e + 2) (d ∷ ds)
    ]

-- the odd primes up to the root of 2^14
abbrev pub odd_primes : List ℕ
odd_primes = 3 ∷ 5 ∷ 7 ∷ 11 ∷ 13 ∷ 17 ∷ 19 ∷ 23 ∷ 29 ∷ 31 ∷ 37 ∷ 41 ∷ 43 ∷ 47 ∷ 53 ∷ 59 ∷ 61 ∷ 67 ∷ 71 ∷ 73 ∷ 79 ∷ 83 ∷ 89 ∷ 97 ∷ 101 ∷ 103 ∷ 107 ∷ 109 ∷ 113 ∷ 127 ∷ []

-- none of the list divides p
abbrev NoneListed : ℕ → List ℕ → Type 0
NoneListed p ds = (j : ℕ) → j < length ds → ¬ (get_or ds j 0 ∣ p)

-- f, the least divisor above 1, is a small divisor where it is not p
pub told_by_least : (p f : ℕ) → 2 ≤ f → f ≤ limit → p % f ≡ 0 → NoneBelow p f → ltb f p ≡ has_small_divisor p
told_by_least p f low high whole below =
    small_told p (ltb f p)
    (λ e. (f, record { low = low; high = high; less = ltb-true f p e; divides = dvd_of_mod-eq-zero f whole }))
    (λ e d s. below d (omega (arith, ltb-false f p e, s.less)) s)

pub none_below_two : (p : ℕ) → NoneBelow p 2
none_below_two p d high s = omega (arith, s.low)

module _ (p : ℕ) (odd : ¬ (p % 2 ≡ 0)) where
  no_even : (d : ℕ) → d % 2 ≡ 0 → ¬ (SmallDivisor p d)
  no_even d even s = no_multiple p 2 d odd even s.divides

  pub none_below_three : NoneBelow p 3
  none_below_three d high s = no_even d (omega (arith, s.low)) s

  -- a divisor of e would be a smaller one of p
  divided : (fs : List ℕ) (e : ℕ) → NoneBelow p e → divided_by fs e ≡ true → ¬ (SmallDivisor p e)
  unfolding divided_by
  divided [] e below t s = absurd (false≢true t)
  divided (f ∷ fs) e below t s =
      by_test (eqb (e % f) 0)
      (λ h.
      let ends : (ltb 1 f ≡ true) × (ltb f e ≡ true) = both _ _ (rw (h, divided_by) at t) in
      let less : f < e = ltb-true f e ends.1 in
      below f less
      (record {
        low = ltb-true 1 f ends.0;
        high = omega (arith, s.high);
        less = omega (arith, s.less);
        divides = dvd_trans f (dvd_of_mod-eq-zero f (eqb-true (e % f) 0 h)) s.divides;
      }))
      (λ h. divided fs e below (rw (h, divided_by) at t) s)

  -- past e, which is odd, and e + 1, which is even
  pub past : (e : ℕ) → e % 2 ≡ 1 → NoneBelow p e → ¬ (SmallDivisor p e) → NoneBelow p (e + 2)
  past e one below here d high s =
      elim (dec_lt d e) [
        | yes l ↦ below d l s
        | no l ↦
            elim (ℕ_discrete d e) [
              | yes same ↦ here (rw same at s)
              | no other ↦ no_even d (omega arith) s
            ]
      ]

  walk : (fs : List ℕ) (n e : ℕ) (ds : List ℕ) → covers fs n e ds ≡ true → e % 2 ≡ 1 → NoneListed p ds → NoneBelow p e → NoneBelow p (e + 2 * n)
  unfolding covers
  walk fs zero e ds t one listed below d high = below d (omega arith)
  walk fs (suc n) e [] t one listed below d high =
      let parts : (divided_by fs e ≡ true) × (covers fs n (e + 2) [] ≡ true) = both _ _ t in
      let next : NoneBelow p (e + 2) = past e one below (divided fs e below parts.0) in
      walk fs n (e + 2) [] parts.1 (omega arith) listed next d (omega arith)
  walk fs (suc n) e (f ∷ ds) t one listed below d high =
      by_test (eqb e f)
      (λ h.
      let here : ¬ (SmallDivisor p e) = λ s. listed 0 (omega arith) (rw (eqb-true e f h) at s.divides) in
      let rest : NoneListed p ds = λ j inside. listed (suc j) (omega arith) in
      walk fs n (e + 2) ds (rw (h, covers) at t) (omega arith) rest (past e one below here) d (omega arith))
      (λ h.
      let parts : (divided_by fs e ≡ true) × (covers fs n (e + 2) (f ∷ ds) ≡ true) = both _ _ (rw (h, covers) at t) in
      let next : NoneBelow p (e + 2) = past e one below (divided fs e below parts.0) in
      walk fs n (e + 2) (f ∷ ds) parts.1 (omega arith) listed next d (omega arith))

  -- 2, 3 and 4
  pub none_below_five : ¬ (p % 3 ≡ 0) → NoneBelow p 5
  none_below_five other d high s =
      elim (ℕ_discrete d 3) [
        | yes three ↦ other (mod-eq-zero_of_dvd 3 (rw three at s.divides))
        | no not_three ↦ no_even d (omega (arith, s.low)) s
      ]

  -- past what the list covers
  pub none_listed_lem : {ds : List ℕ} {found : Bool} (n e : ℕ) → DividedByOne ds p found → found ≡ false → covers odd_primes n e ds ≡ true → e % 2 ≡ 1 → NoneBelow p e → NoneBelow p (e + 2 * n)
  none_listed_lem {ds} n e h f t one below = walk odd_primes n e ds t one (h.none f) below

-- of two factors one is at most the root
pub none_past_root : (p e : ℕ) → p < e * e → NoneBelow p e → (d : ℕ) → ¬ (SmallDivisor p d)
none_past_root p e root below d s =
    elim (dec_lt d e) [
      | yes l ↦ below d l s
      | no l ↦
          let q : ℕ = p / d in
          let whole : q * d ≡ p = div-mul_cancel d s.divides in
          let least : q * e ≤ q * d = mul-le-mul_left q (omega arith) in
          let low : q < e = elim (dec_lt q e) [ yes k ↦ k | no k ↦ absurd (omega (arith, mul-le-mul_right {m = e} {n = q} e (omega arith))) ] in
          below q low
          (record {
            low = cofactor_two p d q s.less whole;
            high = omega (arith, s.high);
            less = omega (arith, s.less);
            divides = subst (λ (n : ℕ). q ∣ n) whole (dvd-mul_right q d);
          })
    ]

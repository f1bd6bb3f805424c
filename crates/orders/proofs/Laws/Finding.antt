-- What the loop that finds the prime divisors of r keeps: those up to the last one are found, and the rest of r has all those above it and no
-- divisor below it. Each one found halves the rest at least, so a list of 32 has room.
use mathlib.Core.Path.{◌≡◌, refl, sym, ap, subst, ◌∙◌}
use mathlib.Core.List.{List, [], ◌∷◌, ◌++◌}
use Prim.Native.Nat.{ℕ, suc, ◌+◌, ◌-◌, ◌*◌, ◌/◌, ◌^◌, ◌≤◌, ◌<◌, ◌∣◌}
use native.Mathlib.Nat.{div-le_self, div-mul_cancel, dvd-mul_right, dvd_refl, dvd_trans, le_of_dvd, mul_comm, mul-le-mul_left, mul-le-mul_right, one-le-pow, pos_of_dvd_of_pos, pow-le-pow_right, pow-suc, pow-zero}
use native.Mathlib.Omega.{arith}
use native.Mathlib.Decide.{dec_lt, ℕ_discrete}
use lib.ListN.{length, length-append}
use Rattle.modular.specs.Primes.{Prime, is_prime}
use Rattle.orders.specs.PrimeDivisors.{primes_to, primes_of, max_primes}
use Rattle.orders.specs.Inner.Least.{LeastDivisor}
use Rattle.orders.proofs.Laws.Factors.{prime_divides, Divisor, primes_none, primes_next}
use Rattle.orders.proofs.Laws.Least.{least_prime}

pub record Finding (r : ℕ) (found : List ℕ) (rest last : ℕ) : Type 0 where
  pub list : found ≡ primes_to r last
  pub half : rest * 2 ^ length found ≤ r
  pub divides : rest ∣ r
  pub left : (q : ℕ) → Prime q → last < q → q ∣ r → q ∣ rest
  pub none : (e : ℕ) → 2 ≤ e → e < last → ¬ (e ∣ rest)
  -- it is 1, or at most r
  pub high : last ≤ 1 + (r - 1)

pub finding_starts : (r : ℕ) → Finding r [] r 1
unfolding primes_to is_prime
finding_starts r =
    record {
      list = refl;
      half = omega (arith, ap (λ (n : ℕ). r * n) (pow-zero 2));
      divides = dvd_refl r;
      left = λ q pr above h. h;
      none = λ e low high h. omega arith;
      high = omega arith;
    }

-- while something is left r isn't 0, and there is room for one more
module _ {r : ℕ} {found : List ℕ} {rest last : ℕ} (f : Finding r found rest last) (two : 2 ≤ rest) where
  finding_some : 1 ≤ r
  finding_some = omega (arith, f.half, mul-le-mul_left rest (one-le-pow (length found) 2 (omega arith)))

  pub finding_room : r < 2 ^ 32 → length found < max_primes
  finding_room small =
      elim (dec_lt (length found) max_primes) [
        | yes h ↦ h
        | no h ↦
            absurd
            (omega (arith, f.half, mul-le-mul_right {m = 2} {n = rest} (2 ^ length found) two, pow-le-pow_right {n = 2} (omega arith) {i = max_primes} {j = length found} (omega arith)))
      ]

module _ {r : ℕ} {found : List ℕ} {rest last : ℕ} (f : Finding r found rest last) (d : ℕ) (l : LeastDivisor rest d) where
  whole : rest / d * d ≡ rest
  whole = div-mul_cancel d l.divides

  quotient : rest / d ∣ rest
  quotient = subst (λ (n : ℕ). rest / d ∣ n) whole (dvd-mul_right (rest / d) d)

  d_divides : d ∣ r
  d_divides = dvd_trans d l.divides f.divides

  not_below : last ≤ d
  not_below = elim (dec_lt d last) [ yes h ↦ absurd (f.none d l.low h l.divides) | no h ↦ omega arith ]

  left_then : (q : ℕ) → Prime q → d < q → q ∣ r → q ∣ rest / d
  left_then q pr above h =
      prime_divides q pr d (rest / d) (subst (λ (n : ℕ). q ∣ n) (sym (mul_comm d (rest / d) ∙ whole)) (f.left q pr (omega (arith, not_below)) h))
      (λ e. omega (arith, l.low, le_of_dvd (omega (arith, l.low)) e))

  none_then : (e : ℕ) → 2 ≤ e → e < d → ¬ (e ∣ rest / d)
  none_then e low high h = l.least e low high (dvd_trans e h quotient)

  -- the last one again
  pub finding_again : d ≤ last → Finding r found (rest / d) last
  finding_again h =
      let same : d ≡ last = omega (arith, not_below) in
      record {
        list = f.list;
        half = omega (arith, f.half, mul-le-mul_right {m = rest / d} {n = rest} (2 ^ length found) (div-le_self rest d));
        divides = dvd_trans (rest / d) quotient f.divides;
        left = λ q pr above. left_then q pr (omega arith);
        none = λ e low high. none_then e low (omega arith);
        high = f.high;
      }

  -- a larger one
  pub finding_more : 2 ≤ rest → last < d → Finding r (found ++ d ∷ []) (rest / d) d
  finding_more two above =
      record {
        list = rw f.list (sym next);
        half = rw (more, pow-suc 2 (length found)) (omega (arith, f.half, halved));
        divides = dvd_trans (rest / d) quotient f.divides;
        left = left_then;
        none = none_then;
        high = omega (arith, le_of_dvd (finding_some f two) d_divides);
      }
    where
      more : length (found ++ d ∷ []) ≡ suc (length found)
      more = omega (arith, length-append found (d ∷ []))

      next : primes_to r d ≡ primes_to r last ++ d ∷ []
      next = primes_next r last d above (least_prime l, d_divides) (λ e low high is. l.least e is.0.least high (f.left e is.0 low is.1))

      halved : rest / d * 2 * 2 ^ length found ≤ rest * 2 ^ length found
      halved = mul-le-mul_right (2 ^ length found) (omega (arith, whole, mul-le-mul_left (rest / d) l.low))

pub finding_ends : {r : ℕ} {found : List ℕ} {rest last : ℕ} → Finding r found rest last → rest ≤ 1 → found ≡ primes_of r
finding_ends {r} {found} {rest} {last} f done = f.list ∙ all
  where
    none_above : (e : ℕ) → last < e → e ≤ r → ¬ (Divisor r e)
    none_above e low high is =
        let divides : e ∣ rest = f.left e is.0 low is.1 in
        omega (arith, is.0.least, le_of_dvd (pos_of_dvd_of_pos f.divides (omega (arith, is.0.least))) divides)

    all : primes_to r last ≡ primes_of r
    all =
        elim (ℕ_discrete r 0) [
          | yes z ↦ primes_none r r last (omega arith) (λ e low high is. omega (arith, is.0.least, f.high))
          | no some ↦ sym (primes_none r last r (omega (arith, f.high)) none_above)
        ]

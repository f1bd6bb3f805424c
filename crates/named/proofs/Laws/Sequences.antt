-- What the exponents of registers 0 and 1 go along: a sequence in which each term is the sum of the two before it. The multiples of
-- the Fibonacci numbers are one, and through any two integers another comes, whose terms below these grow as those numbers do.
use mathlib.Core.Path.{◌≡◌, refl, sym, ap, ap₂, ◌∙◌}
use mathlib.Core.Bool.{Bool, true, false, cond}
use mathlib.Core.List.{List, [], ◌∷◌}
use Prim.Native.Nat.{ℕ, zero, suc, ◌+◌, ◌*◌, ◌≤◌}
use native.Mathlib.Nat.{add-zero, mul-le-mul_left}
use native.Mathlib.Decide.{dec_le}
use native.Mathlib.Omega.{arith}
use lib.IntN.{ℤ, pos, ◌+ℤ◌, ◌-ℤ◌, -ℤ-+ℤ_cancel}
use lib.ListN.{length}
use Rattle.fibonacci.specs.Fibonacci.{fib}
use Rattle.fibonacci.specs.Forms.{fibsum_from, pad, ones}
use Rattle.fibonacci.proofs.Laws.Fibonacci.{fib_zero, fib_one, fib_next, fib_monotone}
use Rattle.machine.proofs.Laws.Integers.{over, under, same, over_less, under_less, Within, within_natural, within_less, within_more}
use Rattle.named.specs.Generators.{lowest, higher}

abbrev pub Adds : (ℕ → ℤ) → Type 0
Adds u = (i : ℕ) → u i +ℤ u (suc i) ≡ u (suc (suc i))

-- for forms of n places: no term is beyond b
pub record Sequence (b n : ℕ) (u : ℕ → ℤ) : Type 0 where
  pub next : Adds u
  pub small : (i : ℕ) → i ≤ suc n → Within b (u i)

-- ---- the terms that a form selects

-- what was there before the terms selected by a form whose first bit is place i were added, to e
abbrev pub minus_selected : (ℕ → ℤ) → ℕ → List Bool → ℤ → ℤ
minus_selected u i [] e = e
minus_selected u i (b ∷ bs) e = cond b (minus_selected u (suc i) bs e -ℤ u (suc i)) (minus_selected u (suc i) bs e)

pub minus_selected_lowest : (u : ℕ → ℤ) (i : ℕ) (ts : List Bool) (f : ℤ)
    → minus_selected u i ts f ≡ cond (lowest ts) (minus_selected u (suc i) (higher ts) f -ℤ u (suc i)) (minus_selected u (suc i) (higher ts) f)
minus_selected_lowest u i [] f = refl
minus_selected_lowest u i (t ∷ ts) f = refl

-- a form with no place set selects none
pub minus_selected_none : (u : ℕ → ℤ) (i n : ℕ) (e : ℤ) → minus_selected u i (pad n []) e ≡ e
unfolding pad
minus_selected_none u i zero e = refl
minus_selected_none u i (suc n) e = minus_selected_none u (suc i) n e

-- at most b for each place that is set
pub minus_selected_within : (b n : ℕ) (u : ℕ → ℤ) → Sequence b n u → (i : ℕ) (bs : List Bool) (e : ℤ) → i + length bs ≤ suc n → Within b e
    → Within (b * suc (ones bs)) (minus_selected u i bs e)
unfolding ones
minus_selected_within b n u q i [] e h w = within_more (omega arith) w
minus_selected_within b n u q i (true ∷ bs) e h w =
    within_more (omega arith)
    (within_less (minus_selected u (suc i) bs e) (u (suc i)) (minus_selected_within b n u q (suc i) bs e (omega arith) w) (q.small (suc i) (omega arith)))
minus_selected_within b n u q i (false ∷ bs) e h w = within_more (omega arith) (minus_selected_within b n u q (suc i) bs e (omega arith) w)

-- ---- multiples of the Fibonacci numbers

abbrev pub multiple : ℕ → ℕ → ℤ
multiple k i = pos (k * fib i)

pub multiple_zero : (k : ℕ) → multiple k 0 ≡ pos 0
multiple_zero k = ap pos (ap (λ (x : ℕ). k * x) fib_zero ∙ omega arith)

pub multiple_one : (k : ℕ) → multiple k 1 ≡ pos k
multiple_one k = ap pos (ap (λ (x : ℕ). k * x) fib_one ∙ omega arith)

pub multiple_next : (k : ℕ) → Adds (multiple k)
multiple_next k i = ap pos (omega (arith, ap (λ (x : ℕ). k * x) (fib_next i)))

pub multiples : (b n k : ℕ) → k * fib (suc n) ≤ b → Sequence b n (multiple k)
multiples b n k most = record {
  next = multiple_next k;
  small = λ i h. within_natural (k * fib i) (omega (arith, mul-le-mul_left k (fib_monotone {m = i} {n = suc n} h)));
}

before_parts : (k i : ℕ) (bs : List Bool) (e : ℤ)
    → over (minus_selected (multiple k) i bs e) + k * fibsum_from i bs + under e ≡ over e + under (minus_selected (multiple k) i bs e)
unfolding fibsum_from
before_parts k i [] e = omega arith
before_parts k i (true ∷ bs) e =
    let a : ℤ = minus_selected (multiple k) (suc i) bs e in
    omega (arith, before_parts k (suc i) bs e, over_less a (multiple k (suc i)), under_less a (multiple k (suc i)))
before_parts k i (false ∷ bs) e = omega (arith, before_parts k (suc i) bs e)

-- the selected multiples sum to the multiple of the form's sum
pub minus_selected_sum : (k i : ℕ) (bs : List Bool) → minus_selected (multiple k) i bs (pos (k * fibsum_from i bs)) ≡ pos 0
minus_selected_sum k i bs = same (minus_selected (multiple k) i bs (pos (k * fibsum_from i bs))) (pos 0) (omega (arith, before_parts k i bs (pos (k * fibsum_from i bs))))

-- ---- a sequence that comes to s and t at n and n + 1

pub record Reaching (b n : ℕ) (s t : ℤ) : Type 0 where
  pub term : ℕ → ℤ
  pub sequence : Sequence b n term
  pub last : term n ≡ s
  pub past : term (suc n) ≡ t

-- where it comes from, with the terms that two forms select taken away from e and f
abbrev pub came_from : {b n : ℕ} {s t : ℤ} → Reaching b n s t → List Bool → List Bool → ℤ → ℤ → List ℤ
came_from q ss ts e f = q.term 0 ∷ q.term 1 ∷ minus_selected q.term 1 ss e ∷ minus_selected q.term 1 ts f ∷ []

-- the multiples of k
pub reaching_multiples : (b n k : ℕ) {s t : ℕ} → k * fib (suc n) ≤ b → s ≡ k * fib n → t ≡ k * fib (suc n) → Reaching b n (pos s) (pos t)
reaching_multiples b n k most last past =
    record { term = multiple k; sequence = multiples b n k most; last = ap pos (sym last); past = ap pos (sym past) }

-- from s and t up
abbrev from : ℤ → ℤ → ℕ → ℤ
from s t zero = s
from s t (suc i) = from t (s +ℤ t) i

from_next : (s t : ℤ) → Adds (from s t)
from_next s t zero = refl
from_next s t (suc i) = from_next t (s +ℤ t) i

reaching_now : (b : ℕ) (s t : ℤ) → Within b s → Within b t → Reaching b 0 s t
reaching_now b s t ws wt = record {
  term = from s t;
  sequence = record { next = from_next s t; small = small };
  last = refl;
  past = refl;
}
  where
    small : (i : ℕ) → i ≤ 1 → Within b (from s t i)
    small zero h = ws
    small (suc zero) h = wt
    small (suc (suc i)) h = absurd (omega arith)

-- one further down
reaching_back : (b n : ℕ) (s t : ℤ) → Reaching b n (t -ℤ s) s → Within b t → Reaching b (suc n) s t
reaching_back b n s t q w = record {
  term = u;
  sequence = record { next = q.sequence.next; small = small };
  last = q.past;
  past = top;
}
  where
    u : ℕ → ℤ
    u = q.term

    top : u (suc (suc n)) ≡ t
    top = sym (q.sequence.next n) ∙ ap₂ ◌+ℤ◌ q.last q.past ∙ -ℤ-+ℤ_cancel t s

    small : (i : ℕ) → i ≤ suc (suc n) → Within b (u i)
    small i h = elim (dec_le i (suc n)) [
      | yes k ↦ q.sequence.small i k
      | no k ↦ let e : i ≡ suc (suc n) = omega arith in rw (e, top) w
    ]

-- down from s and t, which are at most c F_(j+1) and c F_j
pub reaching : (b c n j : ℕ) (s t : ℤ) → c * fib (suc (j + n)) ≤ b → Within (c * fib (suc j)) s → Within (c * fib j) t → Reaching b n s t
reaching b c zero j s t h ws wt =
    reaching_now b s t
    (within_more (omega (arith, ap (λ (i : ℕ). c * fib (suc i)) (add-zero j))) ws)
    (within_more (omega (arith, mul-le-mul_left c (fib_monotone {m = j} {n = suc (j + zero)} (omega arith)))) wt)
reaching b c (suc n) j s t h ws wt =
    let e : suc (j + suc n) ≡ suc (suc j + n) = omega arith in
    reaching_back b n s t
    (reaching b c n (suc j) (t -ℤ s) s (omega (arith, ap (λ (i : ℕ). c * fib i) e))
    (within_more (omega (arith, ap (λ (x : ℕ). c * x) (fib_next j))) (within_less t s wt ws)) ws)
    (within_more (omega (arith, mul-le-mul_left c (fib_monotone {m = j} {n = suc (j + suc n)} (omega arith)))) wt)

-- Every number has exactly one Zeckendorf form. The greedy one is it: what is left under a place that was set is less than
-- the weight of the place below. Two forms of one sum agree place by place from the lowest: where one has place 1 set and
-- the other not, their values of G differ.
use mathlib.Core.Path.{◌≡◌, refl, sym, ap, ◌∙◌}
use mathlib.Core.Bool.{Bool, true, false}
use mathlib.Core.List.{List, [], ◌∷◌}
use Prim.Native.Nat.{ℕ, zero, suc, ◌-◌, ◌≤◌, ◌<◌, ◌^◌}
use native.Mathlib.Numerals.{one-add}
use native.Mathlib.Omega.{arith}
use native.Mathlib.Decide.{dec_lt}
use lib.ListN.{length}
use borrow.Author.Tests.{le-leb, lt-leb}
use Rattle.fibonacci.specs.Fibonacci.{fib}
use Rattle.fibonacci.specs.Forms.{fibsum_from, fibsum, Clear, Topped, Zeckendorf, top_at, greedy, zeckendorf, places}
use Rattle.fibonacci.specs.Hofstadter.{G}
use Rattle.fibonacci.proofs.Laws.Fibonacci.{fib_zero, fib_one, fib_next, fib_grows, fib_positive, fib_exceeds, fib_64}
use Rattle.fibonacci.proofs.Laws.Hofstadter.{G-zero, G-one}
use Rattle.fibonacci.proofs.Laws.Forms.{top_length, top_sum, top_zeckendorf, sum_next, G-form, G-shift, sparse_count}

-- ---- the greedy form

pub greedy_zero : (n : ℕ) → greedy 0 n ≡ []
unfolding greedy
greedy_zero n = refl

pub greedy_take : (m n : ℕ) → fib (suc (suc m)) ≤ n → greedy (suc m) n ≡ top_at m (greedy m (n - fib (suc (suc m))))
unfolding greedy
greedy_take m n h = rw (le-leb (fib (suc (suc m))) n h, greedy)

pub greedy_skip : (m n : ℕ) → n < fib (suc (suc m)) → greedy (suc m) n ≡ greedy m n
unfolding greedy
greedy_skip m n h = rw (lt-leb (fib (suc (suc m))) n h, greedy)

pub greedy_length : (m n : ℕ) → length (greedy m n) ≤ m
greedy_length zero n = rw greedy_zero (omega arith)
greedy_length (suc m) n = elim (dec_lt n (fib (suc (suc m)))) [
  | yes h ↦ rw (greedy_skip m n h) (omega (arith, greedy_length m n))
  | no h ↦ rw (greedy_take m n (omega arith)) (omega (arith, top_length m (greedy m (n - fib (suc (suc m)))) (greedy_length m (n - fib (suc (suc m))))))
]

-- below the weight of place m, place m is not set
greedy_below : (m n : ℕ) → n < fib (suc m) → length (greedy m n) ≤ m - 1
greedy_below zero n h = rw greedy_zero (omega arith)
greedy_below (suc m) n h = rw (greedy_skip m n h) (omega (arith, greedy_length m n))

-- what is left under place m + 1 once it is set
rest_below : (m n : ℕ) → n < fib (suc (suc (suc m))) → n - fib (suc (suc m)) < fib (suc m)
rest_below m n h = omega (arith, fib_next (suc m), fib_positive m)

pub greedy_sum : (m n : ℕ) → n < fib (suc (suc m)) → fibsum (greedy m n) ≡ n
unfolding fibsum_from
greedy_sum zero n h = rw greedy_zero (omega (arith, fib_next 0, fib_one, fib_zero))
greedy_sum (suc m) n h = elim (dec_lt n (fib (suc (suc m)))) [
  | yes k ↦ rw (greedy_skip m n k) (greedy_sum m n k)
  | no k ↦
      let rest : ℕ = n - fib (suc (suc m)) in
      let e : fibsum (greedy m rest) ≡ rest = greedy_sum m rest (omega (arith, rest_below m n h, fib_grows (suc m))) in
      rw (greedy_take m n (omega arith), top_sum m 1 (greedy m rest) (greedy_length m rest), one-add) (omega (arith, e))
]

pub greedy_zeckendorf : (m n : ℕ) → n < fib (suc (suc m)) → Zeckendorf (greedy m n)
greedy_zeckendorf zero n h = rw greedy_zero (record { sparse = tt; topped = tt })
greedy_zeckendorf (suc m) n h = elim (dec_lt n (fib (suc (suc m)))) [
  | yes k ↦ rw (greedy_skip m n k) (greedy_zeckendorf m n k)
  | no k ↦
      let rest : ℕ = n - fib (suc (suc m)) in
      let l : rest < fib (suc m) = rest_below m n h in
      rw (greedy_take m n (omega arith))
      (top_zeckendorf m (greedy m rest) (greedy_zeckendorf m rest (omega (arith, fib_grows (suc m)))) (greedy_below m rest l))
]

-- ---- there is no other

-- a form that is not empty has a sum above 0
topped_positive : (i : ℕ) (bs : List Bool) → Topped bs → 0 < length bs → 0 < fibsum_from i bs
unfolding fibsum_from
topped_positive i [] t h = absurd (omega arith)
topped_positive i (true ∷ bs) t h = omega (arith, fib_positive i)
topped_positive i (false ∷ []) t h = absurd t
topped_positive i (false ∷ c ∷ bs) t h = omega (arith, topped_positive (suc i) (c ∷ bs) t (omega arith))

tail : (b : Bool) (bs : List Bool) → Zeckendorf (b ∷ bs) → Zeckendorf bs
tail true [] z = record { sparse = tt; topped = tt }
tail false [] z = record { sparse = tt; topped = tt }
tail true (c ∷ bs) z = record { sparse = z.sparse.1; topped = z.topped }
tail false (c ∷ bs) z = record { sparse = z.sparse; topped = z.topped }

-- with place 1 not set, one more than the sum has one more for its G
clear_up : (bs : List Bool) → Clear bs → G (suc (fibsum bs)) ≡ suc (G (fibsum bs))
unfolding fibsum_from
clear_up [] c = omega (arith, G-one, G-zero)
clear_up (false ∷ bs) c =
    let e : suc (fibsum (false ∷ bs)) ≡ fibsum (true ∷ bs) = omega (arith, fib_next 0, fib_one, fib_zero) in
    omega (arith, ap G e, G-shift true bs, G-shift false bs)
clear_up (true ∷ bs) c = absurd c

-- a form with place 1 set and a form with place 1 not set differ in their sums
lowest_differs : (bs cs : List Bool) → Clear bs → fibsum (true ∷ bs) ≡ fibsum (false ∷ cs) → ⊥
unfolding fibsum_from
lowest_differs bs cs c e =
    let v : fibsum cs ≡ suc (fibsum bs) = omega (arith, G-shift true bs, G-shift false cs, ap G e) in
    omega (arith, ap G v, clear_up bs c, G-form bs, G-form cs, sum_next 0 bs, sum_next 0 cs, fib_next 0, fib_one, fib_zero)

pub zeckendorf_unique : (bs cs : List Bool) → Zeckendorf bs → Zeckendorf cs → fibsum bs ≡ fibsum cs → bs ≡ cs
unfolding fibsum_from
zeckendorf_unique [] [] y z e = refl
zeckendorf_unique [] (c ∷ cs) y z e = absurd (omega (arith, topped_positive 1 (c ∷ cs) z.topped (omega arith)))
zeckendorf_unique (b ∷ bs) [] y z e = absurd (omega (arith, topped_positive 1 (b ∷ bs) y.topped (omega arith)))
zeckendorf_unique (true ∷ bs) (false ∷ cs) y z e = absurd (lowest_differs bs cs y.sparse.0 e)
zeckendorf_unique (false ∷ bs) (true ∷ cs) y z e = absurd (lowest_differs cs bs z.sparse.0 (sym e))
zeckendorf_unique (true ∷ bs) (true ∷ cs) y z e =
    ap {B = List Bool} (λ l. true ∷ l) (zeckendorf_unique bs cs (tail true bs y) (tail true cs z) (omega (arith, G-shift true bs, G-shift true cs, ap G e)))
zeckendorf_unique (false ∷ bs) (false ∷ cs) y z e =
    ap {B = List Bool} (λ l. false ∷ l) (zeckendorf_unique bs cs (tail false bs y) (tail false cs z) (omega (arith, G-shift false bs, G-shift false cs, ap G e)))

-- ---- the Zeckendorf form of n

pub zeckendorf_form : (n : ℕ) → Zeckendorf (zeckendorf n)
unfolding zeckendorf
zeckendorf_form n = greedy_zeckendorf n n (fib_exceeds n)

pub zeckendorf_sum : (n : ℕ) → fibsum (zeckendorf n) ≡ n
unfolding zeckendorf
zeckendorf_sum n = greedy_sum n n (fib_exceeds n)

-- whatever is a Zeckendorf form is that of its sum
pub zeckendorf_only : (bs : List Bool) → Zeckendorf bs → bs ≡ zeckendorf (fibsum bs)
zeckendorf_only bs z = zeckendorf_unique bs (zeckendorf (fibsum bs)) z (zeckendorf_form (fibsum bs)) (sym (zeckendorf_sum (fibsum bs)))

-- any place that is high enough gives it
pub zeckendorf_by : (m n : ℕ) → n < fib (suc (suc m)) → zeckendorf n ≡ greedy m n
zeckendorf_by m n h =
    zeckendorf_unique (zeckendorf n) (greedy m n) (zeckendorf_form n) (greedy_zeckendorf m n h) (zeckendorf_sum n ∙ sym (greedy_sum m n h))

pub zeckendorf_length : (m n : ℕ) → n < fib (suc (suc m)) → length (zeckendorf n) ≤ m
zeckendorf_length m n h = rw (zeckendorf_by m n h) (greedy_length m n)

-- every 64-bit number's form has at most 46 places
pub zeckendorf_count_64 : (n : ℕ) → n < 2 ^ 64 → length (places (zeckendorf n)) ≤ 46
zeckendorf_count_64 n h =
    omega (arith, sparse_count 1 (zeckendorf n) (zeckendorf_form n).sparse, zeckendorf_length 92 n (fib_64 n h))

-- Hofstadter's G. With w = v + 1 and phi the golden ratio, u = G(v) is floor(w / phi), which two quadratic facts on whole
-- numbers say (`Pair`). They determine u, are kept by document 01's recursion, and by the paper's Lemma 2.
use mathlib.Core.Path.{◌≡◌, refl, sym, ap, ◌∙◌, subst₂}
use mathlib.Core.Bool.{true}
use native.Mathlib.Numerals.{sub-one}
use Prim.Native.Nat.{ℕ, zero, suc, ◌+◌, ◌*◌, ◌-◌, ◌≤◌, ◌<◌}
use native.Mathlib.Nat.{mul-le-mul, mul-le-mul_left, mul-le-mul_right, le_refl}
use native.Mathlib.Omega.{arith}
use native.Mathlib.Decide.{dec_le, dec_lt}
use Rattle.fibonacci.specs.Fibonacci.{fib, lucas, odd}
use Rattle.fibonacci.specs.Hofstadter.{hofstadter_to, G}
use Rattle.fibonacci.proofs.Laws.Fibonacci.{cassini_odd, lucas_fib, fib_grows, fib_at_most_double}

pub record Pair (u v : ℕ) : Type 0 where
  pub low : u * u + u * suc v < suc v * suc v
  pub high : suc v * suc v < suc u * suc u + suc u * suc v

pub pair_at_lem : {u v u' v' : ℕ} → Pair u v → u ≡ u' → v ≡ v' → Pair u' v'
pair_at_lem p e f = subst₂ (λ (x y : ℕ). Pair x y) e f p

pub pair_le : {u v : ℕ} → Pair u v → u ≤ v
pair_le {u} {v} p = go (dec_le u v)
  where
    go : Dec (u ≤ v) → u ≤ v
    go (yes h) = h
    go (no h) = let k : suc v ≤ u = omega arith in omega (arith, mul-le-mul k k, p.low)

pub pair_zero : Pair 0 0
pair_zero = record { low = omega arith; high = omega arith }

pub pair_one : Pair 1 1
pair_one = record { low = omega arith; high = omega arith }

-- Lemma 2: a place more, not set and set
pub pair_up : {u v : ℕ} → Pair u v → Pair v (u + v)
pair_up {u} {v} p =
    let h : u ≤ v = pair_le p in
    record { low = omega (arith, p.low, p.high); high = omega (arith, p.low, p.high) }

pub pair_up_one : {u v : ℕ} → Pair u v → Pair (suc v) (suc (u + v))
pair_up_one {u} {v} p =
    let h : u ≤ v = pair_le p in
    record { low = omega (arith, p.low, p.high); high = omega (arith, p.low, p.high) }

pair_monotone_by : {u v u' : ℕ} (d : ℕ) → Pair u v → Pair u' (v + d) → u ≤ u'
pair_monotone_by {u} {v} {u'} d p q = go (dec_le u u')
  where
    go : Dec (u ≤ u') → u ≤ u'
    go (yes k) = k
    go (no k) =
        let k' : suc u' ≤ u = omega arith in
        omega (arith, p.low, q.high, mul-le-mul k' k', mul-le-mul k' (le_refl (suc (v + d))), mul-le-mul (pair_le p) (le_refl d))

pub pair_monotone : {u v u' v' : ℕ} → Pair u v → Pair u' v' → v ≤ v' → u ≤ u'
pair_monotone {u} {v} {u'} {v'} p q h = pair_monotone_by (v' - v) p (pair_at_lem q refl (omega arith))

pub pair_unique : {u u' v : ℕ} → Pair u v → Pair u' v → u ≡ u'
pair_unique {v = v} p q = omega (arith, pair_monotone p q (le_refl v), pair_monotone q p (le_refl v))

-- no two numbers two or more apart have one value
pair_gap_by : {u v : ℕ} (d : ℕ) → Pair u v → Pair u (v + 2 + d) → ⊥
pair_gap_by {u} {v} d p q =
    let k : 3 * suc v + 2 ≤ 4 * u = omega (arith, p.low, q.high, mul-le-mul (pair_le p) (le_refl d)) in
    omega (arith, p.low, mul-le-mul_right u k, mul-le-mul_right (suc v) k)

pair_gap : {u v v' : ℕ} → Pair u v → Pair u v' → v + 2 ≤ v' → ⊥
pair_gap {u} {v} {v'} p q h = pair_gap_by (v' - (v + 2)) p (pair_at_lem q refl (omega arith))

-- the recursion: where u is the value at v and t the value at u, v + 1 - t is the value at v + 1
pair_recursion : {t u v : ℕ} → Pair u v → Pair t u → Pair (suc v - t) (suc v)
pair_recursion {t} {u} {v} p q = go (dec_lt v (t + u)) (dec_lt (t + u) v)
  where
    go : Dec (v < t + u) → Dec (t + u < v) → Pair (suc v - t) (suc v)
    go (yes h) _ =
        let k : ¬ (v + 2 ≤ t + u) = pair_gap p (pair_up q) in
        pair_at_lem (pair_up q) (omega arith) (omega arith)
    go (no h) (yes k) =
        let l : suc u ≤ u = pair_monotone (pair_up_one q) p (omega arith) in
        absurd (omega arith)
    go (no h) (no k) = pair_at_lem (pair_up_one q) (omega arith) (omega arith)

pair_to : (d n : ℕ) → n ≤ d → Pair (hofstadter_to d n) n
unfolding hofstadter_to
pair_to zero zero h = pair_zero
pair_to zero (suc n) h = absurd (omega arith)
pair_to (suc d) zero h = pair_zero
pair_to (suc d) (suc zero) h = pair_one
pair_to (suc d) (suc (suc n)) h =
    let p : Pair (hofstadter_to d (suc n)) (suc n) = pair_to d (suc n) (omega arith) in
    pair_recursion p (pair_to d (hofstadter_to d (suc n)) (omega (arith, pair_le p)))

pub G-pair : (n : ℕ) → Pair (G n) n
unfolding G
G-pair n = pair_to n n (le_refl n)

pub pair_g : {u v : ℕ} → Pair u v → G v ≡ u
pair_g {u} {v} p = pair_unique (G-pair v) p

pub G-le : (n : ℕ) → G n ≤ n
G-le n = pair_le (G-pair n)

-- document 01's three equations
pub G-zero : G 0 ≡ 0
G-zero = pair_g pair_zero

pub G-one : G 1 ≡ 1
G-one = pair_g pair_one

pub G-next : (n : ℕ) → 1 < n → G n ≡ n - G (G (n - 1))
G-next zero h = absurd (omega arith)
G-next (suc n) h = simp sub-one (pair_g (pair_recursion (G-pair n) (G-pair (G n))))

-- and any function with these equations is G
pub G-only : (g : ℕ → ℕ) → g 0 ≡ 0 → g 1 ≡ 1 → ((n : ℕ) → 1 < n → g n ≡ n - g (g (n - 1))) → (n : ℕ) → g n ≡ G n
G-only g z o s n = go n n (le_refl n)
  where
    go : (d m : ℕ) → m ≤ d → g m ≡ G m
    go zero zero h = z ∙ sym G-zero
    go zero (suc m) h = absurd (omega arith)
    go (suc d) zero h = z ∙ sym G-zero
    go (suc d) (suc zero) h = o ∙ sym G-one
    go (suc d) (suc (suc m)) h =
        let e : g (suc m) ≡ G (suc m) = go d (suc m) (omega arith) in
        let f : g (G (suc m)) ≡ G (G (suc m)) = go d (G (suc m)) (omega (arith, G-le (suc m))) in
        let p : g (suc (suc m)) ≡ suc (suc m) - g (g (suc m)) = simp sub-one at (s (suc (suc m)) (omega arith)) in
        let q : G (suc (suc m)) ≡ suc (suc m) - G (G (suc m)) = simp sub-one at (G-next (suc (suc m)) (omega arith)) in
        p ∙ rw (e, f) (sym q)

-- Lemma 1, for odd l and k at most L_l, with a = F_l, b = F_(l+1), c = L_l
pair_multiple_of : (a b c k : ℕ) → b * b + 1 ≡ b * a + a * a → 2 * b ≡ a + c → a ≤ b → b ≤ 2 * a → k ≤ c → Pair (k * a) (k * b)
pair_multiple_of a b c k e s m d h = record {
  low = omega (arith, ap (λ (x : ℕ). k * k * x) e, ap (λ (x : ℕ). k * x) s, mul-le-mul_left k h);
  high = omega (arith, ap (λ (x : ℕ). k * k * x) e, mul-le-mul_left k d);
}

pub pair_multiple : (l k : ℕ) → odd l ≡ true → k ≤ lucas l → Pair (k * fib l) (k * fib (suc l))
pair_multiple zero k o h = let z : ◌≡◌ {A = ℕ} 0 1 = cc in absurd (omega arith)
pair_multiple (suc l) k o h =
    pair_multiple_of (fib (suc l)) (fib (suc (suc l))) (lucas (suc l)) k (cassini_odd (suc l) o) (lucas_fib (suc l))
    (fib_grows (suc l)) (fib_at_most_double (suc l) (omega arith)) h

pub G-multiple : (l k : ℕ) → odd l ≡ true → k ≤ lucas l → G (k * fib (suc l)) ≡ k * fib l
G-multiple l k o h = pair_g (pair_multiple l k o h)

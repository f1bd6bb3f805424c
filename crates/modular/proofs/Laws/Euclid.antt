-- What the extended Euclidean algorithm keeps for x and m: of remainders a and b, with coefficients s and t, x * s leaves a and
-- x * t leaves b modulo m. The coefficients have opposite signs, and their sizes u and v keep u * b + v * a = m, so none exceeds m.
use mathlib.Core.Path.{◌≡◌, refl, sym, ◌∙◌, ap, ap₂}
use Prim.Native.Nat.{ℕ, zero, suc, ◌+◌, ◌*◌, ◌/◌, ◌%◌, ◌≤◌, ◌<◌, ◌∣◌}
use native.Mathlib.Nat.{div-add-mod', dvd-mod_iff, le-div_iff_mul-le, mod-lt, mul-le-mul_left, mul-le-mul_right, mul-zero}
use native.Mathlib.Omega.{arith}
use lib.IntN.{ℤ, pos, neg_ℤ, ◌-ℤ◌, ◌*ℤ◌, neg_ℤ-neg_ℤ, neg_ℤ-+ℤ}
use lib.Signed.{mag}

-- the sizes of the coefficients
pub record Sizes (m a b u v : ℕ) : Type 0 where
  pub sum : u * b + v * a ≡ m
  pub order : u ≤ v

-- x * s leaves a and x * t leaves b modulo m, for coefficients s and t of sizes u and v
pub data Bezout (x m a b : ℕ) (s t : ℤ) : Type 0 where
  up : (u v i j : ℕ) → s ≡ pos u → t ≡ neg_ℤ (pos v) → u * x ≡ a + i * m → v * x + b ≡ j * m → Sizes m a b u v → Bezout x m a b s t
  down : (u v i j : ℕ) → s ≡ neg_ℤ (pos u) → t ≡ pos v → u * x + a ≡ i * m → v * x ≡ b + j * m → Sizes m a b u v → Bezout x m a b s t

-- what a turn keeps, with that a common divisor of a and b is one of x and m
pub record Kept (x m a b : ℕ) (s t : ℤ) : Type 0 where
  pub less : b < a
  pub bound : a ≤ m
  pub divisor : (d : ℕ) → d ∣ a → d ∣ b → (d ∣ x) × (d ∣ m)
  pub bezout : Bezout x m a b s t

pub kept_start : (x m : ℕ) → 0 < m → Kept x m m (x % m) (pos 0) (pos 1)
kept_start x m some =
    record {
      less = mod-lt x some;
      bound = omega arith;
      divisor = λ d dm dx. ((dvd-mod_iff d dm).0 dx, dm);
      bezout = down 0 1 1 (x / m) refl refl (omega arith) (omega (arith, div-add-mod' x m)) (record { sum = omega arith; order = omega arith });
    }

-- the sizes after a turn, with a = q * b + c
sizes_step : (m a b q c u v : ℕ) → q * b + c ≡ a → 1 ≤ q → Sizes m a b u v → Sizes m b c v (u + q * v)
sizes_step m a b q c u v whole some z =
    record {
      sum = omega (arith, z.sum, ap (λ (n : ℕ). v * n) whole);
      order = omega (arith, mul-le-mul_right {m = 1} {n = q} v some);
    }

size_bound : (m a b u v : ℕ) → 0 < a → Sizes m a b u v → v ≤ m
size_bound m a b u v some z = omega (arith, z.sum, mul-le-mul_left {m = 1} {n = a} v some)

-- the products with x after a turn
to_down : (x m a b q c u v i j : ℕ) → q * b + c ≡ a → u * x ≡ a + i * m → v * x + b ≡ j * m → (u + q * v) * x ≡ c + (i + q * j) * m
to_down x m a b q c u v i j whole eu ev = omega (arith, ap (λ (n : ℕ). q * n) ev)

to_up : (x m a b q c u v i j : ℕ) → q * b + c ≡ a → u * x + a ≡ i * m → v * x ≡ b + j * m → (u + q * v) * x + c ≡ (i + q * j) * m
to_up x m a b q c u v i j whole eu ev = omega (arith, ap (λ (n : ℕ). q * n) ev)

-- signs
mul_neg : (q v : ℕ) → pos q *ℤ neg_ℤ (pos v) ≡ neg_ℤ (pos (q * v))
mul_neg q zero = rw mul-zero
mul_neg q (suc n) = refl

mag_neg : (n : ℕ) → mag (neg_ℤ (pos n)) ≤ n
mag_neg zero = omega arith
mag_neg (suc n) = omega arith

-- a turn: its product and its difference are no larger than m, and what it keeps
pub record Turn (x m a b : ℕ) (s t : ℤ) : Type 0 where
  pub product : mag (pos (a / b) *ℤ t) ≤ m
  pub difference : mag (s -ℤ pos (a / b) *ℤ t) ≤ m
  pub next : Kept x m b (a % b) t (s -ℤ pos (a / b) *ℤ t)

module _ (x m a b : ℕ) (s t : ℤ) (some : 0 < b) (k : Kept x m a b s t) where
  kept_next : Bezout x m b (a % b) t (s -ℤ pos (a / b) *ℤ t) → Kept x m b (a % b) t (s -ℤ pos (a / b) *ℤ t)
  kept_next z =
      record {
        less = mod-lt a some;
        bound = omega (arith, k.less, k.bound);
        divisor = λ d db dr. k.divisor d ((dvd-mod_iff d db).0 dr) db;
        bezout = z;
      }

  pub turn : Turn x m a b s t
  turn = go k.bezout
    where
      whole : a / b * b + a % b ≡ a
      whole = div-add-mod' a b

      q_some : 1 ≤ a / b
      q_some = (le-div_iff_mul-le {k = b} some).1 (omega (arith, k.less))

      go : Bezout x m a b s t → Turn x m a b s t
      go (up u v i j es et eu ev z) =
          let q : ℕ = a / b in
          let n : Sizes m b (a % b) v (u + q * v) = sizes_step m a b q (a % b) u v whole q_some z in
          let size : u + q * v ≤ m = size_bound m b (a % b) v (u + q * v) some n in
          let pt : pos q *ℤ t ≡ neg_ℤ (pos (q * v)) = ap (λ (y : ℤ). pos q *ℤ y) et ∙ mul_neg q v in
          let dt : s -ℤ pos q *ℤ t ≡ pos (u + q * v) = ap₂ ◌-ℤ◌ es pt ∙ rw neg_ℤ-neg_ℤ in
          record {
            product = rw pt (omega (arith, mag_neg (q * v)));
            difference = rw dt size;
            next = kept_next (down v (u + q * v) j (i + q * j) et dt ev (to_down x m a b q (a % b) u v i j whole eu ev) n);
          }
      go (down u v i j es et eu ev z) =
          let q : ℕ = a / b in
          let n : Sizes m b (a % b) v (u + q * v) = sizes_step m a b q (a % b) u v whole q_some z in
          let size : u + q * v ≤ m = size_bound m b (a % b) v (u + q * v) some n in
          let pt : pos q *ℤ t ≡ pos (q * v) = ap (λ (y : ℤ). pos q *ℤ y) et in
          let dt : s -ℤ pos q *ℤ t ≡ neg_ℤ (pos (u + q * v)) = ap₂ ◌-ℤ◌ es pt ∙ sym (neg_ℤ-+ℤ (pos u) (pos (q * v))) in
          record {
            product = rw pt (omega arith);
            difference = rw dt (omega (arith, mag_neg (u + q * v)));
            next = kept_next (up v (u + q * v) j (i + q * j) et dt ev (to_up x m a b q (a % b) u v i j whole eu ev) n);
          }

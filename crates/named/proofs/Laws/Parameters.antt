-- What the tests of p, r, k and the variant say: each is by its parts, so a law rewrites the parts that are known or takes them apart.
use mathlib.Core.Path.{◌≡◌, refl, sym, ap, ◌∙◌}
use mathlib.Core.Bool.{true, false, not, true≢false, and-true, and-false}
use Rattle.std.proofs.Common.{◌≢◌, Ok, Err, is_err}
use Rattle.std.specs.declared.result.Result.{Result}
use Rattle.refusal.specs.declared.Refusal.{Refusal}
use Prim.Native.Nat.{ℕ, zero, suc, ◌-◌, ◌%◌, ◌≤◌, ◌<◌, ◌∣◌}
use native.Mathlib.Nat.{le_of_dvd, dvd_of_mod-eq-zero}
use native.Mathlib.Omega.{arith}
use lib.Dec.{leb, ltb, eqb}
use borrow.Author.Tests.{leb-true, le-leb, lt-leb, ltb-true, ltb-false, lt-ltb, le-ltb, eqb-true, eqb-false, ne_eqb, not-false}
use Rattle.modular.specs.Search.{divides}
use Rattle.modular.specs.Primes.{is_prime}
use Rattle.refusal.proofs.Laws.Tests.{both, neither}
use Rattle.tape.specs.Words.{number_limit}
use Rattle.named.specs.declared.Variant.{Variant}
use Rattle.named.specs.declared.Variant.TheVariants.{Basic, Dual, Hybrid}
use Rattle.named.specs.Named.{last_variant}
use Rattle.named.specs.Parameters.{bad_modulus, bad_order, bad_variant}
use Rattle.named.specs.Variants.{variant_number, Names}

-- ---- the modulus

module _ (p : ℕ) where
  pub modulus_low : p < 3 → bad_modulus p ≡ true
  unfolding bad_modulus
  modulus_low low = rw (lt-leb 3 p low, and-false (is_prime p))

  pub modulus_high : number_limit ≤ p → bad_modulus p ≡ true
  unfolding bad_modulus
  modulus_high high = rw (le-ltb p number_limit high, and-false (leb 3 p), and-false (is_prime p))

  pub modulus_between : 3 ≤ p → p < number_limit → bad_modulus p ≡ not (is_prime p)
  unfolding bad_modulus
  modulus_between low high = rw (le-leb 3 p low, lt-ltb p number_limit high, and-true (is_prime p))

-- a modulus that refusal 1 lets pass
pub record GoodModulus (p : ℕ) : Type 0 where
  pub prime : is_prime p ≡ true
  pub low : 3 ≤ p
  pub high : p < number_limit

pub good_modulus_lem : (p : ℕ) → bad_modulus p ≡ false → GoodModulus p
unfolding bad_modulus
good_modulus_lem p good =
    let a = both (is_prime p) _ (not-false _ good) in
    let b = both (leb 3 p) _ a.1 in
    record { prime = a.0; low = leb-true 3 p b.0; high = ltb-true p number_limit b.1 }

-- ---- the order

module _ (p r : ℕ) where
  pub order_low : r < 2 → bad_order p r ≡ true
  unfolding bad_order
  order_low low = rw (lt-ltb r 2 low)

  pub order_divides : 2 ≤ r → bad_order p r ≡ not (divides r (p - 1))
  unfolding bad_order
  order_divides two = rw (le-ltb r 2 two)

-- an order that refusal 2 lets pass
pub record GoodOrder (p r : ℕ) : Type 0 where
  pub low : 2 ≤ r
  pub divisor : r ∣ p - 1

pub good_order_lem : (p r : ℕ) → bad_order p r ≡ false → GoodOrder p r
unfolding bad_order
good_order_lem p r good =
    let a = neither (ltb r 2) _ good in
    record { low = ltb-false r 2 a.0; divisor = dvd_of_mod-eq-zero r (eqb-true ((p - 1) % r) 0 (not-false _ a.1)) }

-- an order that is not refused is below its modulus
pub order_below : (p r : ℕ) → bad_modulus p ≡ false → bad_order p r ≡ false → r < p
order_below p r modulus order =
    let m = good_modulus_lem p modulus in
    omega (arith, m.low, le_of_dvd {m = r} {n = p - 1} (omega (arith, m.low)) (good_order_lem p r order).divisor)

pub order_small : (p r : ℕ) → bad_modulus p ≡ false → bad_order p r ≡ false → r < number_limit
order_small p r modulus order = omega (arith, (good_modulus_lem p modulus).high, order_below p r modulus order)

-- ---- the variant

module _ (variant : ℕ) where
  pub named : ¬ (variant ≡ 0) → variant ≤ last_variant → bad_variant variant ≡ false
  unfolding bad_variant
  named some most = rw (ne_eqb variant 0 some, le-ltb last_variant variant most)

  pub named_some : bad_variant variant ≡ false → ¬ (variant ≡ 0)
  unfolding bad_variant
  named_some is = eqb-false variant 0 (neither (eqb variant 0) _ is).0

  pub named_most : bad_variant variant ≡ false → variant ≤ last_variant
  unfolding bad_variant
  named_most is = ltb-false last_variant variant (neither (eqb variant 0) _ is).1

-- a variant's number is in the table
pub variant_named : (v : Variant) → bad_variant (variant_number v) ≡ false
unfolding bad_variant
variant_named Basic = refl
variant_named Dual = refl
variant_named Hybrid = refl

-- and no other number is
pub unnamed : (variant : ℕ) → variant ≢ 1 → variant ≢ 2 → variant ≢ 3 → bad_variant variant ≡ true
unfolding bad_variant
unnamed zero one two three = refl
unnamed (suc n) one two three = let past : last_variant < suc n = omega arith in rw (ne_eqb (suc n) 0 (omega arith), lt-ltb last_variant (suc n) past)

-- a number names no variant where refusal 4 applies
pub names_bad : (variant : ℕ) (o : Result Variant Refusal) → Names variant o → is_err o ≡ bad_variant variant
names_bad variant (Ok v) is = sym (ap bad_variant is ∙ variant_named v)
names_bad variant (Err e) is = sym is.0

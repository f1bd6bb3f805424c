-- What a payload means, by the tests on it: each law rewrites the definition's tests.
use mathlib.Core.Path.{◌≡◌, ap, ◌∙◌}
use mathlib.Core.Bool.{true, false, not, and-false}
use Prim.Native.Nat.{ℕ, ◌/◌, ◌%◌, ◌≤◌, ◌<◌}
use lib.Dec.{eqb, ltb}
use borrow.Author.Tests.{lt-ltb, le-ltb, eq-eqb, ne_eqb}
use Rattle.tape.specs.declared.Step.{Step}
use Rattle.tape.specs.declared.Step.TheVariants.{Swp}
use Rattle.tape.specs.declared.Decoded.TheVariants.{Heading, Action, Bad}
use Rattle.tape.specs.Words.{kind_of, heading_in, are_distinct, action_in, swap_in, decoded}

-- ---- a heading's

module _ (payload : ℕ) where
  pub heading_good : payload % 256 ≡ 1 → payload < 4096 → heading_in payload ≡ Heading (payload / 256)
  unfolding heading_in
  heading_good format low = rw (eq-eqb (payload % 256) 1 format, lt-ltb payload 4096 low)

  pub heading_format : (payload % 256 ≡ 1 → ⊥) → heading_in payload ≡ Bad
  unfolding heading_in
  heading_format other = rw (ne_eqb (payload % 256) 1 other)

  pub heading_high : 4096 ≤ payload → heading_in payload ≡ Bad
  unfolding heading_in
  heading_high high = rw (le-ltb payload 4096 high, and-false (eqb (payload % 256) 1))

-- ---- a multiplication's or a division's

module _ (payload : ℕ) where
  pub distinct_high : 16 ≤ payload → are_distinct payload ≡ false
  distinct_high high = rw (le-ltb payload 16 high)

  pub distinct_low : payload < 16 → are_distinct payload ≡ not (eqb (payload % 4) (payload / 4))
  distinct_low low = rw (lt-ltb payload 16 low)

module _ (step : ℕ → ℕ → Step) (payload : ℕ) where
  pub action_distinct : are_distinct payload ≡ true → action_in step payload ≡ Action (step (payload % 4) (payload / 4))
  unfolding action_in
  action_distinct e = rw e

  pub action_bad : are_distinct payload ≡ false → action_in step payload ≡ Bad
  unfolding action_in
  action_bad e = rw e

  pub action_good : payload < 16 → (payload % 4 ≡ payload / 4 → ⊥) → action_in step payload ≡ Action (step (payload % 4) (payload / 4))
  action_good low apart = action_distinct (distinct_low payload low ∙ ap not (ne_eqb (payload % 4) (payload / 4) apart))

-- ---- a swap's

module _ (payload : ℕ) where
  pub swap_good : payload < 16 → payload % 4 < payload / 4 → swap_in payload ≡ Action (Swp (payload % 4) (payload / 4))
  unfolding swap_in
  swap_good low order = rw (lt-ltb payload 16 low, lt-ltb (payload % 4) (payload / 4) order)

  pub swap_high : 16 ≤ payload → swap_in payload ≡ Bad
  unfolding swap_in
  swap_high high = rw (le-ltb payload 16 high)

  pub swap_order : payload / 4 ≤ payload % 4 → swap_in payload ≡ Bad
  unfolding swap_in
  swap_order order = rw (le-ltb (payload % 4) (payload / 4) order, and-false (ltb payload 16))

-- ---- a kind without a meaning

-- none of the kinds that have one
pub record NoKind (kind : ℕ) : Type 0 where
  pub not_1 : kind ≡ 1 → ⊥
  pub not_2 : kind ≡ 2 → ⊥
  pub not_3 : kind ≡ 3 → ⊥
  pub not_4 : kind ≡ 4 → ⊥
  pub not_5 : kind ≡ 5 → ⊥
  pub not_6 : kind ≡ 6 → ⊥
  pub not_7 : kind ≡ 7 → ⊥
  pub not_15 : kind ≡ 15 → ⊥

pub decoded_nothing : (w : ℕ) → NoKind (kind_of w) → decoded w ≡ Bad
unfolding decoded
decoded_nothing w n =
    let k = kind_of w in
    rw (
      ne_eqb k 1 n.not_1,
      ne_eqb k 2 n.not_2,
      ne_eqb k 3 n.not_3,
      ne_eqb k 4 n.not_4,
      ne_eqb k 5 n.not_5,
      ne_eqb k 6 n.not_6,
      ne_eqb k 7 n.not_7,
      ne_eqb k 15 n.not_15,
    )

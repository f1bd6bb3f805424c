-- The Zeckendorf form of a number below r, padded or not: how many places it has, how many of them are set, and how far it goes.
use mathlib.Core.Path.{◌≡◌, ◌∙◌}
use Prim.Native.Nat.{ℕ, ◌+◌, ◌*◌, ◌/◌, ◌^◌, ◌≤◌, ◌<◌}
use native.Mathlib.Nat.{mul-le-mul}
use native.Mathlib.Omega.{arith}
use lib.ListN.{length}
use Rattle.fibonacci.specs.Fibonacci.{fib}
use Rattle.fibonacci.specs.Forms.{pad, ones, zeckendorf, fibsum}
use Rattle.fibonacci.specs.Height.{height}
use Rattle.fibonacci.proofs.Laws.Fibonacci.{fib_monotone}
use Rattle.fibonacci.proofs.Laws.Forms.{pad_length, pad_sum, ones_pad, ones_places}
use Rattle.fibonacci.proofs.Laws.Zeckendorf.{zeckendorf_sum}
use Rattle.fibonacci.proofs.Laws.Height.{zeckendorf_height, height_28}
use Rattle.fibonacci.proofs.Laws.Lengths.{ones_count}
use Rattle.tape.specs.Words.{number_limit}
use Rattle.named.proofs.Laws.Loops.{reach}

abbrev pub max_ones : ℕ → ℕ
max_ones r = (height r + 1) / 2

pub form_ones : (r n : ℕ) → n < r → ones (zeckendorf n) ≤ max_ones r
form_ones r n h = omega (arith, ones_places 1 (zeckendorf n), ones_count r n h)

module _ (m n : ℕ) where
  pub padded_sum : fibsum (pad m (zeckendorf n)) ≡ n
  padded_sum = pad_sum m 1 (zeckendorf n) ∙ zeckendorf_sum n

  pub padded_length : (r : ℕ) → n < r → height r ≤ m → length (pad m (zeckendorf n)) ≡ m
  padded_length r h l = pad_length m (zeckendorf n) (omega (arith, zeckendorf_height r n h))

  pub padded_ones : (r : ℕ) → n < r → ones (pad m (zeckendorf n)) ≤ max_ones r
  padded_ones r h = omega (arith, ones_pad m (zeckendorf n), form_ones r n h)

-- ---- how far such forms go

-- along no larger terms, x F_i for x up to r and i up to h + 2
abbrev pub max_term : ℕ → ℕ
max_term r = r * fib (2 + height r)

module _ (r : ℕ) where
  pub most_term : (x i : ℕ) → x ≤ r → i ≤ 2 + height r → x * fib i ≤ max_term r
  most_term x i small low = mul-le-mul small (fib_monotone {m = i} {n = 2 + height r} low)

  -- in range, where a word holds r
  pub reach_28 : r < number_limit → reach (max_term r) (max_ones r) ≤ 2 ^ 62
  unfolding fib
  reach_28 small =
      let low : height r ≤ 41 = height_28 r small in
      let below : r ≤ 2 ^ 28 = omega arith in
      let term = mul-le-mul below (fib_monotone {m = 2 + height r} {n = 43} (omega arith)) in
      let more : 2 + max_ones r ≤ 23 = omega arith in
      omega (arith, mul-le-mul term more)

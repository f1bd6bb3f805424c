-- The hybrid program: figure 6 on the Zeckendorf form of v = k F_(ℓ'+1), of at most 2h places with h set, and on K's padded to ℓ'.
use mathlib.Core.Path.{◌≡◌, refl, sym, ap, ◌∙◌}
use mathlib.Core.Bool.{Bool, false}
use mathlib.Core.List.{List, []}
use Prim.Native.Nat.{ℕ, suc, ◌+◌, ◌*◌, ◌%◌, ◌≤◌, ◌<◌}
use native.Mathlib.Omega.{arith}
use lib.ListN.{length}
use Rattle.modular.specs.Inverses.{inverse, bad_exponent}
use Rattle.fibonacci.specs.Fibonacci.{fib}
use Rattle.fibonacci.specs.Forms.{fibsum_from, fibsum, pad, ones, zeckendorf}
use Rattle.fibonacci.specs.Height.{height, odd_height}
use Rattle.fibonacci.proofs.Laws.Fibonacci.{fib_one}
use Rattle.fibonacci.proofs.Laws.Forms.{ones_places}
use Rattle.fibonacci.proofs.Laws.Zeckendorf.{zeckendorf_sum}
use Rattle.fibonacci.proofs.Laws.Height.{height_least, height_28, height_le_odd, odd_height_le, odd_height_28}
use Rattle.fibonacci.proofs.Laws.Lengths.{multiple_length, multiple_shift, multiple_count}
use Rattle.tape.specs.Words.{number_limit}
use Rattle.named.specs.declared.Figure.TheVariants.{Six}
use Rattle.named.specs.Generators.{generated}
use Rattle.named.specs.Named.{hybrid_forms}
use Rattle.named.specs.Promises.{FormsFit, IsProgram}
use Rattle.named.proofs.Laws.Lengths.{drawn_count, lone_fits}
use Rattle.named.proofs.Laws.Sequences.{reaching_multiples}
use Rattle.named.proofs.Laws.Forms.{padded_sum, padded_length, padded_ones, max_term, max_ones, most_term, reach_28}
use Rattle.named.proofs.Laws.Programs.{below, inverse_is, six_program}

module _ (r k : ℕ) (good : bad_exponent k r ≡ false) where
  abbrev v : ℕ
  v = k * fib (suc (odd_height r))

  abbrev Ks : List Bool
  Ks = pad (odd_height r) (zeckendorf (inverse r k))

  abbrev h : k < r
  h = below r k good

  places : length Ks ≡ odd_height r
  places = padded_length (odd_height r) (inverse r k) r (inverse_is r k good).high (height_le_odd r)

  few : ones Ks ≤ max_ones r
  few = padded_ones (odd_height r) (inverse r k) r (inverse_is r k good).high

  pub hybrid_bound : length (generated (hybrid_forms r k)) ≤ 8 * height r + 5
  unfolding hybrid_forms ones
  hybrid_bound =
      omega (
        arith,
        drawn_count Six (zeckendorf v) [] Ks [] (omega arith) (omega arith) refl refl,
        multiple_length r k h,
        multiple_count r k h,
        ones_places 1 (zeckendorf v),
        places,
        few,
        odd_height_le r,
        (height_least r).from,
      )

  pub hybrid_fits : r < number_limit → FormsFit (hybrid_forms r k)
  unfolding hybrid_forms
  hybrid_fits small =
      lone_fits Six (zeckendorf v) Ks (omega (arith, multiple_length r k h, height_28 r small)) (omega (arith, places, odd_height_28 r small))

  pub hybrid_program : IsProgram r k (generated (hybrid_forms r k))
  unfolding hybrid_forms
  hybrid_program =
      let eu : fibsum_from 0 (zeckendorf v) ≡ k * fib (length Ks) = multiple_shift r k h ∙ ap (λ (n : ℕ). k * fib n) (sym places) in
      let ev : fibsum (zeckendorf v) ≡ k * fib (suc (length Ks)) = zeckendorf_sum v ∙ ap (λ (n : ℕ). k * fib (suc n)) (sym places) in
      six_program r k good (max_term r) (max_ones r) (reach_28 r) (zeckendorf v) Ks
      (reaching_multiples (max_term r) (length Ks) k (most_term r k (suc (length Ks)) (omega (arith, h)) (omega (arith, places, odd_height_le r))) eu ev)
      (ap (λ (n : ℕ). k * n % r) (padded_sum (odd_height r) (inverse r k)) ∙ (inverse_is r k good).one)
      (ap (λ (n : ℕ). n % r) eu) (ap (λ (n : ℕ). n % r) ev)
      few (omega (arith, fib_one, most_term r 1 1 (omega (arith, h)) (omega arith)))
      (λ small. omega (arith, hybrid_bound, height_28 r small))

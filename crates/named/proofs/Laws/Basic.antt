-- The basic program: figure 2 on the Zeckendorf forms of k and K, of at most h places each, of which at most (h + 1) / 2 are set.
use mathlib.Core.Path.{◌≡◌, refl, ap, ◌∙◌}
use mathlib.Core.Bool.{false}
use mathlib.Core.List.{[]}
use Prim.Native.Nat.{ℕ, suc, ◌+◌, ◌*◌, ◌%◌, ◌≤◌, ◌<◌}
use native.Mathlib.Omega.{arith}
use lib.ListN.{length}
use Rattle.modular.specs.Inverses.{inverse, bad_exponent}
use Rattle.fibonacci.specs.Forms.{ones, zeckendorf}
use Rattle.fibonacci.specs.Height.{height}
use Rattle.fibonacci.proofs.Laws.Zeckendorf.{zeckendorf_sum}
use Rattle.fibonacci.proofs.Laws.Height.{zeckendorf_height, height_28}
use Rattle.tape.specs.Words.{number_limit}
use Rattle.named.specs.declared.Figure.TheVariants.{Two}
use Rattle.named.specs.Generators.{generated}
use Rattle.named.specs.Named.{basic_forms}
use Rattle.named.specs.Promises.{FormsFit, IsProgram}
use Rattle.named.proofs.Laws.Lengths.{drawn_count, lone_fits}
use Rattle.named.proofs.Laws.Forms.{form_ones, max_term, max_ones, most_term, reach_28}
use Rattle.named.proofs.Laws.Programs.{below, inverse_is, two_program}

module _ (r k : ℕ) (good : bad_exponent k r ≡ false) where
  abbrev K : ℕ
  K = inverse r k

  abbrev h : k < r
  h = below r k good

  abbrev H : K < r
  H = (inverse_is r k good).high

  pub basic_bound : length (generated (basic_forms r k)) ≤ 9 * height r + 2
  unfolding basic_forms ones
  basic_bound =
      omega (arith, drawn_count Two (zeckendorf k) [] (zeckendorf K) [] (omega arith) (omega arith) refl refl, zeckendorf_height r k h, zeckendorf_height r K H, form_ones r k h, form_ones r K H)

  pub basic_fits : r < number_limit → FormsFit (basic_forms r k)
  unfolding basic_forms
  basic_fits small =
      let low = height_28 r small in
      lone_fits Two (zeckendorf k) (zeckendorf K) (omega (arith, low, zeckendorf_height r k h)) (omega (arith, low, zeckendorf_height r K H))

  pub basic_program : IsProgram r k (generated (basic_forms r k))
  unfolding basic_forms
  basic_program =
      two_program r k good (max_term r) (max_ones r) (reach_28 r) (zeckendorf k) (zeckendorf K)
      (zeckendorf_sum k) (ap (λ (n : ℕ). k * n % r) (zeckendorf_sum K) ∙ (inverse_is r k good).one)
      (form_ones r k h) (form_ones r K H)
      (most_term r 1 (suc (length (zeckendorf k))) (omega (arith, h)) (omega (arith, zeckendorf_height r k h)))
      (most_term r k (suc (length (zeckendorf K))) (omega (arith, h)) (omega (arith, zeckendorf_height r K H)))
      (λ small. omega (arith, height_28 r small, basic_bound))

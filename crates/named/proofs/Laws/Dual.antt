-- The dual program: figure 4 on four forms of numbers below r, each padded to h.
use mathlib.Core.Path.{◌≡◌, ap, ◌∙◌}
use mathlib.Core.Bool.{false}
use Prim.Native.Nat.{ℕ, suc, ◌+◌, ◌*◌, ◌%◌, ◌≤◌, ◌<◌}
use native.Mathlib.Nat.{mod-lt, mod-mod, mul-le-mul_left}
use native.Mathlib.Omega.{arith}
use lib.IntN.{pos}
use lib.ListN.{length}
use Rattle.modular.specs.Inverses.{inverse, bad_exponent}
use Rattle.fibonacci.specs.Fibonacci.{fib}
use Rattle.fibonacci.specs.Forms.{fibsum, ones}
use Rattle.fibonacci.specs.Height.{height}
use Rattle.fibonacci.proofs.Laws.Fibonacci.{fib_one, fib_monotone}
use Rattle.fibonacci.proofs.Laws.Height.{height_28}
use Rattle.tape.specs.Words.{number_limit}
use Rattle.machine.proofs.Laws.Integers.{Within, within_natural}
use Rattle.named.specs.declared.Figure.TheVariants.{Four}
use Rattle.named.specs.Generators.{generated}
use Rattle.named.specs.Named.{dual_form, dual_forms}
use Rattle.named.specs.Promises.{FormsFit, IsProgram}
use Rattle.named.proofs.Laws.Lengths.{drawn_count}
use Rattle.named.proofs.Laws.Sequences.{reaching}
use Rattle.named.proofs.Laws.Forms.{padded_sum, padded_length, padded_ones, max_term, max_ones, most_term, reach_28}
use Rattle.named.proofs.Laws.Programs.{FormOf, below, four_program}

module _ (r k : ℕ) (good : bad_exponent k r ≡ false) where
  abbrev h : ℕ
  h = height r

  abbrev K : ℕ
  K = inverse r k

  residue_below : (n : ℕ) → n % r < r
  residue_below n = mod-lt n (omega (arith, below r k good))

  sum : (x i : ℕ) → fibsum (dual_form r x i) ≡ x * fib i % r
  sum x i = padded_sum h (x * fib i % r)

  places : (x i : ℕ) → length (dual_form r x i) ≡ h
  places x i = padded_length h (x * fib i % r) r (residue_below (x * fib i)) (omega arith)

  few : (x i : ℕ) → ones (dual_form r x i) ≤ max_ones r
  few x i = padded_ones h (x * fib i % r) r (residue_below (x * fib i))

  pub dual_bound : length (generated (dual_forms r k)) ≤ 6 * h + 4
  unfolding dual_forms
  dual_bound =
      omega (
        arith,
        drawn_count Four (dual_form r k h) (dual_form r k (suc h)) (dual_form r K h) (dual_form r K (suc h))
            (omega (arith, places k h, places k (suc h))) (omega (arith, places K h, places K (suc h))) tt tt,
        places k h,
        places K h,
        few k h,
        few k (suc h),
        few K h,
        few K (suc h),
      )

  pub dual_fits : r < number_limit → FormsFit (dual_forms r k)
  unfolding dual_forms
  dual_fits small = record {
    first = omega (arith, height_28 r small, places k h);
    beside = omega (arith, places k h, places k (suc h));
    last = omega (arith, height_28 r small, places K h);
    beside_last = omega (arith, places K h, places K (suc h));
    alone = tt;
    alone_last = tt;
  }

  form : (x i : ℕ) → FormOf r h (max_ones r) (x * fib i) (dual_form r x i)
  form x i = record { places = places x i; few = few x i; sum = ap (λ (n : ℕ). n % r) (sum x i) ∙ mod-mod (x * fib i) r }

  pub dual_program : IsProgram r k (generated (dual_forms r k))
  unfolding dual_forms
  dual_program =
      let within : (i j : ℕ) → 1 ≤ j → Within (r * fib j) (pos (fibsum (dual_form r k i))) =
      λ i j some. within_natural _ (omega (arith, sum k i, residue_below (k * fib i), mul-le-mul_left r (fib_monotone {m = 1} {n = j} some), ap (λ (n : ℕ). r * n) fib_one)) in
      four_program r k good (max_term r) (max_ones r) (reach_28 r) h (dual_form r k h) (dual_form r k (suc h)) (dual_form r K h) (dual_form r K (suc h))
      (form k h) (form k (suc h)) (form K h) (form K (suc h))
      (reaching (max_term r) r h 1 _ _ (most_term r r (suc (1 + h)) (omega arith) (omega arith)) (within h 2 (omega arith)) (within (suc h) 1 (omega arith)))
      (most_term r 1 (suc h) (omega (arith, below r k good)) (omega arith)) (λ small. omega (arith, height_28 r small, dual_bound))

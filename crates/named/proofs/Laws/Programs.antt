-- Each figure's program for the k-th power, for any forms whose sums fit: what a variant's file hands its forms to. The second half
-- of every figure goes back along a sequence that is congruent to the multiples of k, so it ends at (0, k, 0, 0) modulo r.
use mathlib.Core.Path.{◌≡◌, refl, sym, ap, ◌∙◌}
use mathlib.Core.Bool.{Bool, false}
use mathlib.Core.List.{List, [], ◌∷◌}
use Prim.Native.Nat.{ℕ, suc, ◌*◌, ◌%◌, ◌≤◌, ◌<◌, ◌^◌}
use native.Mathlib.Nat.{one-mul}
use native.Mathlib.Omega.{arith}
use lib.IntN.{ℤ, pos}
use lib.ListN.{length}
use Rattle.modular.specs.Primes.{Prime}
use Rattle.modular.specs.Inverses.{Inverse, inverse, bad_exponent}
use Rattle.modular.proofs.Laws.Residues.{unscaled}
use Rattle.modular.proofs.Laws.Inverses.{good_exponent_lem, inverse_order}
use Rattle.fibonacci.specs.Fibonacci.{fib}
use Rattle.fibonacci.specs.Forms.{fibsum_from, fibsum, pad, ones}
use Rattle.tape.specs.declared.Step.{Step}
use Rattle.tape.specs.Words.{number_limit}
use Rattle.tape.specs.Layout.{max_steps}
use Rattle.tape.specs.Steps.{AllSound}
use Rattle.machine.specs.Machine.{inverted}
use Rattle.machine.specs.Exponents.{shift, start_exponents, exponents_at}
use Rattle.machine.proofs.Laws.Integers.{Within, within_natural}
use Rattle.machine.proofs.Laws.Ranges.{four_within, LeadsTo, goes_step, goes_append, goes_back, goes_stays}
use Rattle.machine.proofs.Laws.Congruences.{Congruent, congruent_same, congruent_naturals}
use Rattle.named.specs.declared.Figure.{Figure}
use Rattle.named.specs.declared.Figure.TheVariants.{Two, Four, Six}
use Rattle.named.specs.Generators.{ascend, chain, descend, basic, dual, hybrid, drawn, Raises}
use Rattle.named.specs.Promises.{IsProgram}
use Rattle.named.proofs.Laws.Sound.{sound_ascend, sound_drawn}
use Rattle.named.proofs.Laws.Lengths.{drawn_some}
use Rattle.named.proofs.Laws.Sequences.{multiple, multiple_one, multiples, Reaching, came_from, reaching_multiples}
use Rattle.named.proofs.Laws.Loops.{reach, reached, ascend_from, chain_multiples, ascend_sums, all_naturals, descend_sums}
use Rattle.named.proofs.Laws.Ends.{EndsAt, one_residue, came_ends, end_residues, ends_raises, raises_undone}

-- a form of x modulo r with n places, of which at most m are set
pub record FormOf (r n m x : ℕ) (bs : List Bool) : Type 0 where
  pub places : length bs ≡ n
  pub few : ones bs ≤ m
  pub sum : fibsum bs % r ≡ x % r

module _ (r k : ℕ) (good : bad_exponent k r ≡ false) where
  pub below : k < r
  below = (good_exponent_lem k r good).high

  pub inverse_is : Inverse r k (inverse r k)
  inverse_is = inverse_order k r good

  -- forms with at most m places set, along terms of at most b, in range where a word holds r
  module _ (b m : ℕ) (room : r < number_limit → reach b m ≤ 2 ^ 62) where
    drawn_program : (figure : Figure) (ss ts Ss Ts : List Bool) {n : ℕ} {s t : ℤ} (q : Reaching b n s t) (e f : ℤ)
        → length Ss ≡ n → length Ts ≤ n → ones Ss ≤ m → ones Ts ≤ m → Within b e → Within b f
        → Congruent r s (multiple k n) → Congruent r t (multiple k (suc n)) → Congruent r e (pos (k * fibsum Ss)) → Congruent r f (pos (k * fibsum Ts))
        → (r < number_limit → length (drawn figure ss ts Ss Ts) ≤ max_steps)
        → ((z : List ℤ) → LeadsTo (reach b m) (inverted (ascend Ss Ts)) (s ∷ t ∷ e ∷ f ∷ []) z → LeadsTo (reach b m) (drawn figure ss ts Ss Ts) start_exponents z)
        → IsProgram r k (drawn figure ss ts Ss Ts)
    drawn_program figure ss ts Ss Ts {n} q e f l_s l_t few few' we wf cs ct ce cf short opening =
        let xs : List Step = drawn figure ss ts Ss Ts in
        let goes =
        opening (came_from q Ss Ts e f)
        (rw (q.last, q.past) at
        (goes_back (ascend Ss Ts) (sound_ascend Ss Ts) refl
        (ascend_from b m n q.term q.sequence e f we wf Ss Ts 0 (omega arith) (omega arith) few few'))) in
        let sound : AllSound xs = sound_drawn figure ss ts Ss Ts in
        let ends : EndsAt r k (exponents_at xs (length xs)) = end_residues r k goes (came_ends r k q Ss Ts e f below cs ct (omega arith) l_t ce cf) in
        let raises : (p : ℕ) → Prime p → Raises p r k xs = λ p pr. ends_raises p pr r k xs sound (omega (arith, below)) ends in
        record {
          some = drawn_some figure ss ts Ss Ts;
          sound = sound;
          raises = raises;
          undone_raises = λ p pr. raises_undone p pr r k xs sound (inverse r k) inverse_is.one (raises p pr);
          ends = ends;
          short = short;
          stays = λ small. goes_stays (room small) xs goes;
        }

    -- with one form in the second half, which takes (1, 0) to (1 - k K, 0)
    lone_program : (figure : Figure) (ss Ks : List Bool) {s t : ℤ} (q : Reaching b (length Ks) s t) → k * fibsum Ks % r ≡ 1 → ones Ks ≤ m → 1 ≤ b
        → Congruent r s (multiple k (length Ks)) → Congruent r t (multiple k (suc (length Ks)))
        → (r < number_limit → length (drawn figure ss [] Ks []) ≤ max_steps)
        → ((z : List ℤ) → LeadsTo (reach b m) (inverted (ascend Ks [])) (s ∷ t ∷ pos 1 ∷ pos 0 ∷ []) z → LeadsTo (reach b m) (drawn figure ss [] Ks []) start_exponents z)
        → IsProgram r k (drawn figure ss [] Ks [])
    unfolding fibsum_from ones
    lone_program figure ss Ks q inv few some cs ct short opening =
        drawn_program figure ss [] Ks [] q (pos 1) (pos 0) refl (omega arith) few (omega arith) (within_natural 1 some) (within_natural 0 (omega arith)) cs ct
        (congruent_naturals r 1 (k * fibsum Ks) (sym (one_residue r k (fibsum Ks) inv)))
        (congruent_same r (pos 0) (pos (k * 0)) (ap pos (omega arith))) short opening

    -- figure 2, along the multiples of 1 and then of k
    pub two_program : (ks Ks : List Bool) → fibsum ks ≡ k → k * fibsum Ks % r ≡ 1 → ones ks ≤ m → ones Ks ≤ m
        → 1 * fib (suc (length ks)) ≤ b → k * fib (suc (length Ks)) ≤ b
        → (r < number_limit → length (drawn Two ks [] Ks []) ≤ max_steps) → IsProgram r k (drawn Two ks [] Ks [])
    unfolding drawn basic shift fibsum_from ones
    two_program ks Ks sum inv few few' most most' short =
        let n : ℕ = length ks in
        let l : ℕ = length Ks in
        let w0 : Within b (pos 0) = within_natural 0 (omega arith) in
        let w1 : Within b (pos 1) = rw (multiple_one 1) at ((multiples b n 1 most).small 1 (omega arith)) in
        let wk : Within b (pos k) = rw (multiple_one k) at ((multiples b l k most').small 1 (omega arith)) in
        lone_program Two ks Ks (reaching_multiples b l k most' refl refl) inv few' w1.high (congruent_same r _ _ refl) (congruent_same r _ _ refl) short
        (λ z closing.
        goes_append (ascend ks []) (rw sum at (ascend_sums b m n ks [] refl (omega arith) few (omega arith) most (omega (arith, wk.high)) (omega arith)))
        (goes_append (inverted (chain n))
        (goes_back (chain n) (sound_ascend (pad n []) []) refl (chain_multiples b m n 1 most (pos k) (pos 0) wk w0))
        (goes_step (all_naturals (reach b m) 0 1 k 0 (omega (arith, wk.high))) refl
        (goes_append (chain l) (chain_multiples b m l k most' (pos 1) (pos 0) w1 w0) closing))))

    -- figure 4, along the multiples of 1 and then the sequence through the sums of its first two forms
    pub four_program : (n : ℕ) (ss ts Ss Ts : List Bool) → FormOf r n m (k * fib n) ss → FormOf r n m (k * fib (suc n)) ts
        → FormOf r n m (inverse r k * fib n) Ss → FormOf r n m (inverse r k * fib (suc n)) Ts
        → Reaching b n (pos (fibsum ss)) (pos (fibsum ts)) → 1 * fib (suc n) ≤ b
        → (r < number_limit → length (drawn Four ss ts Ss Ts) ≤ max_steps) → IsProgram r k (drawn Four ss ts Ss Ts)
    unfolding drawn dual shift
    four_program n ss ts Ss Ts first beside last beside_last_lem q most short =
        let crossed : (bs : List Bool) (i : ℕ) → fibsum bs % r ≡ inverse r k * fib i % r → Congruent r (multiple 1 i) (pos (k * fibsum bs)) =
        λ bs i e.
        congruent_naturals r (1 * fib i) (k * fibsum bs)
        (ap (λ (x : ℕ). x % r) (one-mul (fib i)) ∙ sym (unscaled r k (inverse r k) (fibsum bs) (fib i) inverse_is.one e)) in
        let ws : Within b (pos (fibsum ss)) = rw q.last at (q.sequence.small n (omega arith)) in
        let wt : Within b (pos (fibsum ts)) = rw q.past at (q.sequence.small (suc n) (omega arith)) in
        let wc : Within b (multiple 1 n) = (multiples b n 1 most).small n (omega arith) in
        let wd : Within b (multiple 1 (suc n)) = (multiples b n 1 most).small (suc n) (omega arith) in
        drawn_program Four ss ts Ss Ts q (multiple 1 n) (multiple 1 (suc n)) last.places (omega (arith, beside_last_lem.places)) last.few beside_last_lem.few wc wd
        (congruent_naturals r (fibsum ss) (k * fib n) first.sum) (congruent_naturals r (fibsum ts) (k * fib (suc n)) beside.sum)
        (crossed Ss n last.sum) (crossed Ts (suc n) beside_last_lem.sum) short
        (λ z closing.
        goes_append (ascend ss ts) (ascend_sums b m n ss ts first.places (omega (arith, beside.places)) first.few beside.few most ws.high wt.high)
        (goes_step (four_within (reached b m wc) (reached b m wd) (reached b m ws) (reached b m wt)) refl
        (goes_step (four_within (reached b m ws) (reached b m wd) (reached b m wc) (reached b m wt)) refl closing)))

    -- figure 6, down to the sums of its first form, and along the sequence through them
    pub six_program : (vs Ks : List Bool) (q : Reaching b (length Ks) (pos (fibsum_from 0 vs)) (pos (fibsum vs))) → k * fibsum Ks % r ≡ 1
        → fibsum_from 0 vs % r ≡ k * fib (length Ks) % r → fibsum vs % r ≡ k * fib (suc (length Ks)) % r → ones Ks ≤ m → 1 ≤ b
        → (r < number_limit → length (drawn Six vs [] Ks []) ≤ max_steps) → IsProgram r k (drawn Six vs [] Ks [])
    unfolding drawn hybrid shift
    six_program vs Ks q inv eu ev few some short =
        let u : ℕ = fibsum_from 0 vs in
        let v : ℕ = fibsum vs in
        let wu : Within b (pos u) = rw q.last at (q.sequence.small (length Ks) (omega arith)) in
        let wv : Within b (pos v) = rw q.past at (q.sequence.small (suc (length Ks)) (omega arith)) in
        lone_program Six vs Ks q inv few some (congruent_naturals r u (k * fib (length Ks)) eu) (congruent_naturals r v (k * fib (suc (length Ks))) ev) short
        (λ z closing.
        goes_step (all_naturals (reach b m) 0 1 0 0 (omega arith)) refl
        (goes_append (descend vs) (descend_sums (reach b m) vs (omega (arith, wv.high)))
        (goes_step (all_naturals (reach b m) 1 u v 0 (omega (arith, wu.high, wv.high))) refl
        (goes_step (all_naturals (reach b m) u 1 v 0 (omega (arith, wu.high, wv.high))) refl closing))))

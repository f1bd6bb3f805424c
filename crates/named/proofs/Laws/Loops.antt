-- What the two loops make of whole exponents, within a bound at every position: going up, registers 0 and 1 go along a sequence, and
-- registers 2 and 3 are away from where they end by the terms that are still selected; coming down, all grow.
use mathlib.Core.Path.{◌≡◌, refl, sym, ap, ◌∙◌}
use mathlib.Core.Bool.{Bool, true, false, cond}
use mathlib.Core.List.{List, [], ◌∷◌}
use Prim.Native.Nat.{ℕ, suc, ◌+◌, ◌*◌, ◌≤◌, ◌<◌}
use native.Mathlib.Nat.{add-zero, mul-le-mul_left}
use native.Mathlib.Omega.{arith}
use lib.IntN.{ℤ, pos, ◌+ℤ◌, ◌-ℤ◌, -ℤ-+ℤ_cancel}
use lib.ListN.{length}
use Rattle.fibonacci.specs.Fibonacci.{fib}
use Rattle.fibonacci.specs.Forms.{fibsum_from, fibsum, pad, ones}
use Rattle.fibonacci.proofs.Laws.Fibonacci.{fib_zero, fib_one, fib_next}
use Rattle.fibonacci.proofs.Laws.Forms.{pad_length, sum_next, ones_pad}
use Rattle.tape.specs.declared.Step.{Step}
use Rattle.tape.specs.declared.Step.TheVariants.{Mul, Swp}
use Rattle.machine.specs.Exponents.{shift, start_exponents}
use Rattle.machine.proofs.Laws.Integers.{Within, within_natural, within_more}
use Rattle.machine.proofs.Laws.Ranges.{AllWithin, four_within, LeadsTo, goes_none, goes_step, goes_append}
use Rattle.named.specs.Generators.{select, lowest, higher, ascend, chain, down_steps, descend}
use Rattle.named.proofs.Laws.Lengths.{length_higher, ones_lowest}
use Rattle.named.proofs.Laws.Sequences.{Sequence, minus_selected, minus_selected_lowest, minus_selected_none, minus_selected_within, multiple, multiple_zero, multiple_one, multiples, minus_selected_sum}

-- ---- going up

-- a step for a place that is set takes a to b in the exponents f a; where the place is not set, b is there already
selected : {l : ℕ} (s : Bool) (x : Step) {xs : List Step} {v : List ℤ} (f : ℤ → List ℤ) (a b : ℤ) → AllWithin l (f a) → shift x (f a) ≡ f b
    → LeadsTo l xs (f b) v → LeadsTo l (select s x xs) (f (cond s a b)) v
selected true x f a b r e g = goes_step r e g
selected false x f a b r e g = g

either_within : {l : ℕ} (s : Bool) (a b : ℤ) → Within l a → Within l b → Within l (cond s a b)
either_within true a b va vb = va
either_within false a b va vb = vb

-- a chain step to w and its selected multiplications
chained : {l : ℕ} (s t : Bool) {xs : List Step} {v : List ℤ} (c d w a b : ℤ) → c +ℤ d ≡ w
    → Within l c → Within l d → Within l w → Within l a → Within l b → Within l (a -ℤ w) → Within l (b -ℤ w)
    → LeadsTo l xs (d ∷ w ∷ a ∷ b ∷ []) v
    → LeadsTo l (Mul 0 1 ∷ Swp 0 1 ∷ select s (Mul 2 1) (select t (Mul 3 1) xs)) (c ∷ d ∷ cond s (a -ℤ w) a ∷ cond t (b -ℤ w) b ∷ []) v
unfolding shift
chained s t c d w a b next vc vd vw va vb va' vb' g =
    let x : ℤ = cond s (a -ℤ w) a in
    let y : ℤ = cond t (b -ℤ w) b in
    let vx = either_within s (a -ℤ w) a va' va in
    let vy = either_within t (b -ℤ w) b vb' vb in
    goes_step (four_within vc vd vx vy) (ap (λ (z : ℤ). z ∷ d ∷ x ∷ y ∷ []) next)
    (goes_step (four_within vw vd vx vy) refl
    (selected s (Mul 2 1) (λ z. d ∷ w ∷ z ∷ y ∷ []) (a -ℤ w) a (four_within vd vw va' vy) (ap (λ (z : ℤ). d ∷ w ∷ z ∷ y ∷ []) (-ℤ-+ℤ_cancel a w))
    (selected t (Mul 3 1) (λ z. d ∷ w ∷ a ∷ z ∷ []) (b -ℤ w) b (four_within vd vw va vb') (ap (λ (z : ℤ). d ∷ w ∷ a ∷ z ∷ []) (-ℤ-+ℤ_cancel b w)) g)))

-- how far forms with at most m places set go, along terms of at most b
abbrev pub reach : ℕ → ℕ → ℕ
reach b m = suc (b * (2 + m))

module _ (b m : ℕ) where
  pub reached : {x : ℤ} → Within b x → Within (reach b m) x
  reached w = within_more (omega arith) w

  module _ (n : ℕ) (u : ℕ → ℤ) (q : Sequence b n u) (e f : ℤ) (we : Within b e) (wf : Within b f) where
    term_reached : (i : ℕ) → i ≤ suc n → Within (reach b m) (u i)
    term_reached i h = reached (q.small i h)

    selected_reached : (x : ℤ) → Within b x → (i : ℕ) (bs : List Bool) → i + length bs ≤ suc n → ones bs ≤ suc m → Within (reach b m) (minus_selected u i bs x)
    selected_reached x w i bs h few =
        let fewer : suc (ones bs) ≤ 2 + m = omega arith in
        within_more (omega (arith, mul-le-mul_left b fewer)) (minus_selected_within b n u q i bs x h w)

    -- to e and f, from what was there before the terms that the forms select
    pub ascend_from : (ss ts : List Bool) (i : ℕ) → length ts ≤ length ss → i + length ss ≡ n → ones ss ≤ m → ones ts ≤ m
        → LeadsTo (reach b m) (ascend ss ts) (u i ∷ u (suc i) ∷ minus_selected u (suc i) ss e ∷ minus_selected u (suc i) ts f ∷ []) (u n ∷ u (suc n) ∷ e ∷ f ∷ [])
    unfolding ascend ones
    ascend_from [] [] i h l few few' =
        let here : i ≡ n = omega arith in
        rw here (goes_none (four_within (term_reached n (omega arith)) (term_reached (suc n) (omega arith)) (reached we) (reached wf)))
    ascend_from [] (t ∷ ts) i h l few few' = absurd (omega arith)
    ascend_from (s ∷ ss) ts i h l few few' =
        let j : ℕ = suc (suc i) in
        let short : length (higher ts) ≤ length ss = length_higher (length ss) ts h in
        let few'' : ones (higher ts) ≤ m = omega (arith, ones_lowest ts) in
        rw (minus_selected_lowest u (suc i) ts f)
        (chained s (lowest ts) (u i) (u (suc i)) (u j) (minus_selected u j ss e) (minus_selected u j (higher ts) f) (q.next i)
        (term_reached i (omega arith)) (term_reached (suc i) (omega arith)) (term_reached j (omega arith))
        (selected_reached e we j ss (omega arith) (omega arith)) (selected_reached f wf j (higher ts) (omega arith) (omega arith))
        (selected_reached e we (suc i) (true ∷ ss) (omega arith) (omega arith)) (selected_reached f wf (suc i) (true ∷ higher ts) (omega arith) (omega arith))
        (ascend_from ss (higher ts) (suc i) short (omega arith) (omega arith) few''))

  -- ---- going up from 0 and k, along the multiples of k

  module _ (n k : ℕ) (most : k * fib (suc n) ≤ b) (e f : ℤ) (we : Within b e) (wf : Within b f) where
    ascend_multiples : (ss ts : List Bool) → length ss ≡ n → length ts ≤ n → ones ss ≤ m → ones ts ≤ m
        → LeadsTo (reach b m) (ascend ss ts) (pos 0 ∷ pos k ∷ minus_selected (multiple k) 1 ss e ∷ minus_selected (multiple k) 1 ts f ∷ [])
        (multiple k n ∷ multiple k (suc n) ∷ e ∷ f ∷ [])
    ascend_multiples ss ts ls lt few few' =
        rw (multiple_zero k, multiple_one k) at
        (ascend_from n (multiple k) (multiples b n k most) e f we wf ss ts 0 (omega arith) (omega arith) few few')

    pub chain_multiples : LeadsTo (reach b m) (chain n) (pos 0 ∷ pos k ∷ e ∷ f ∷ []) (multiple k n ∷ multiple k (suc n) ∷ e ∷ f ∷ [])
    unfolding ones
    chain_multiples =
        rw (minus_selected_none (multiple k) 1 n e) at
        (ascend_multiples (pad n []) [] (pad_length n [] (omega arith)) (omega arith) (omega (arith, ones_pad n [])) (omega arith))

  -- from (0, 1, 0, 0) to the sums of two forms
  pub ascend_sums : (n : ℕ) (ss ts : List Bool) → length ss ≡ n → length ts ≤ n → ones ss ≤ m → ones ts ≤ m
      → 1 * fib (suc n) ≤ b → fibsum ss ≤ b → fibsum ts ≤ b
      → LeadsTo (reach b m) (ascend ss ts) start_exponents (multiple 1 n ∷ multiple 1 (suc n) ∷ pos (fibsum ss) ∷ pos (fibsum ts) ∷ [])
  ascend_sums n ss ts ls lt few few' most hs ht =
      let none : (bs : List Bool) → minus_selected (multiple 1) 1 bs (pos (fibsum bs)) ≡ pos 0 =
      λ bs. ap (λ (x : ℕ). minus_selected (multiple 1) 1 bs (pos x)) (omega arith) ∙ minus_selected_sum 1 1 bs in
      rw (none ss, none ts) at
      (ascend_multiples n 1 most (pos (fibsum ss)) (pos (fibsum ts)) (within_natural (fibsum ss) hs) (within_natural (fibsum ts) ht) ss ts ls lt few few')

-- ---- coming down

pub all_naturals : (l c d e f : ℕ) → c + d + e + f ≤ l → AllWithin l (pos c ∷ pos d ∷ pos e ∷ pos f ∷ [])
all_naturals l c d e f h =
    four_within (within_natural c (omega arith)) (within_natural d (omega arith)) (within_natural e (omega arith)) (within_natural f (omega arith))

downward : (l : ℕ) (b : Bool) (u v : ℕ) → 2 * (u + (v + cond b 1 0)) < l
    → LeadsTo l (down_steps b) (pos 1 ∷ pos u ∷ pos v ∷ pos 0 ∷ []) (pos 1 ∷ pos (v + cond b 1 0) ∷ pos (u + (v + cond b 1 0)) ∷ pos 0 ∷ [])
unfolding shift
downward l true u v h =
    goes_step (all_naturals l 1 u v 0 (omega arith)) refl
    (goes_step (all_naturals l 1 u (v + 1) 0 (omega arith)) refl
    (goes_step (all_naturals l 1 (u + (v + 1)) (v + 1) 0 (omega arith)) refl
    (goes_none (all_naturals l 1 (v + 1) (u + (v + 1)) 0 (omega arith)))))
downward l false u v h =
    rw (add-zero v)
    (goes_step (all_naturals l 1 u v 0 (omega arith)) refl
    (goes_step (all_naturals l 1 (u + v) v 0 (omega arith)) refl
    (goes_none (all_naturals l 1 v (u + v) 0 (omega arith)))))

place_low : (b : Bool) (n : ℕ) → n + cond b 1 0 ≡ cond b (fib 1) 0 + n
place_low true n = omega (arith, fib_one)
place_low false n = omega arith

place_high : (b : Bool) (u v : ℕ) → u + (v + cond b 1 0) ≡ cond b (fib 2) 0 + (v + u)
place_high true u v = omega (arith, fib_next 0, fib_one, fib_zero)
place_high false u v = omega arith

pub descend_sums : (l : ℕ) (bs : List Bool) → 2 * fibsum bs < l
    → LeadsTo l (descend bs) (pos 1 ∷ pos 0 ∷ pos 0 ∷ pos 0 ∷ []) (pos 1 ∷ pos (fibsum_from 0 bs) ∷ pos (fibsum bs) ∷ pos 0 ∷ [])
unfolding descend fibsum_from
descend_sums l [] h = goes_none (all_naturals l 1 0 0 0 (omega arith))
descend_sums l (b ∷ bs) h =
    let u : ℕ = fibsum_from 0 bs in
    let v : ℕ = fibsum bs in
    let high : u + (v + cond b 1 0) ≡ cond b (fib 2) 0 + fibsum_from 2 bs =
    place_high b u v ∙ ap (λ (x : ℕ). cond b (fib 2) 0 + x) (sym (sum_next 0 bs)) in
    goes_append (descend bs) (descend_sums l bs (omega arith)) (rw (high, place_low b v) at (downward l b u v (omega arith)))

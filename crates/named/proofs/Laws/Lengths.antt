-- How many steps a program has: two for each place of a loop, one for each place that is set, and the swaps.
use mathlib.Core.Path.{◌≡◌, refl, ap, ◌∙◌}
use mathlib.Core.Bool.{Bool, true, false, cond}
use mathlib.Core.List.{List, [], ◌∷◌}
use Prim.Native.Nat.{ℕ, suc, ◌+◌, ◌*◌, ◌≤◌, ◌<◌}
use native.Mathlib.Omega.{arith}
use lib.ListN.{length, length-append}
use Rattle.fibonacci.specs.Forms.{pad, ones}
use Rattle.fibonacci.specs.Services.{last_place}
use Rattle.fibonacci.proofs.Laws.Forms.{pad_length, ones_pad}
use Rattle.tape.specs.declared.Step.{Step}
use Rattle.tape.specs.declared.Step.TheVariants.{Mul, Swp}
use Rattle.machine.specs.Machine.{inverted}
use Rattle.machine.proofs.Laws.Steps.{length_inverted}
use Rattle.named.specs.declared.Figure.{Figure}
use Rattle.named.specs.declared.Figure.TheVariants.{Two, Four, Six}
use Rattle.named.specs.Generators.{select, lowest, higher, ascend, chain, down_steps, descend, basic, dual, hybrid, Forms, lone, drawn, generated, steps_from}
use Rattle.named.specs.Promises.{Alone, FormsFit}

select_length : (b : Bool) (x : Step) (xs : List Step) → length (select b x xs) ≡ cond b 1 0 + length xs
select_length true x xs = omega arith
select_length false x xs = omega arith

pub ones_lowest : (ts : List Bool) → cond (lowest ts) 1 0 + ones (higher ts) ≡ ones ts
unfolding ones
ones_lowest [] = refl
ones_lowest (true ∷ ts) = omega arith
ones_lowest (false ∷ ts) = omega arith

pub length_higher : (n : ℕ) (ts : List Bool) → length ts ≤ suc n → length (higher ts) ≤ n
length_higher n [] h = omega arith
length_higher n (t ∷ ts) h = omega arith

ascend_length : (ss ts : List Bool) → length ts ≤ length ss → length (ascend ss ts) ≡ 2 * length ss + (ones ss + ones ts)
unfolding ascend ones
ascend_length [] [] h = refl
ascend_length [] (t ∷ ts) h = absurd (omega arith)
ascend_length (s ∷ ss) ts h =
    omega (
      arith,
      select_length s (Mul 2 1) (select (lowest ts) (Mul 3 1) (ascend ss (higher ts))),
      select_length (lowest ts) (Mul 3 1) (ascend ss (higher ts)),
      ascend_length ss (higher ts) (length_higher (length ss) ts h),
      ones_lowest ts,
    )

descend_length : (bs : List Bool) → length (descend bs) ≡ 2 * length bs + ones bs
unfolding descend ones
descend_length [] = refl
descend_length (b ∷ bs) =
    length-append (descend bs) (down_steps b)
    ∙ omega (arith, descend_length bs, select_length b (Mul 2 0) (Mul 1 2 ∷ Swp 1 2 ∷ []))

chain_length : (n : ℕ) → length (chain n) ≡ 2 * n
unfolding ones
chain_length n = ascend_length (pad n []) [] (omega arith) ∙ omega (arith, pad_length n [] (omega arith), ones_pad n [])

-- ---- whichever the figure

pub drawn_count : (figure : Figure) (ss ts Ss Ts : List Bool) → length ts ≤ length ss → length Ts ≤ length Ss → Alone figure ts → Alone figure Ts
    → length (drawn figure ss ts Ss Ts) ≡ steps_from figure (length ss) (length Ss) (ones ss + ones ts + ones Ss + ones Ts)
unfolding drawn basic dual hybrid ones
drawn_count Two ks ts Ks Ts h H e E =
    length-append (ascend ks []) _
    ∙ ap (λ (n : ℕ). length (ascend ks []) + n) (length-append (inverted (chain (length ks))) _)
    ∙ ap (λ (n : ℕ). length (ascend ks []) + (length (inverted (chain (length ks))) + suc n)) (length-append (chain (length Ks)) (inverted (ascend Ks [])))
    ∙ rw (e, E)
    (omega (
      arith,
      ascend_length ks [] (omega arith),
      ascend_length Ks [] (omega arith),
      length_inverted (chain (length ks)),
      length_inverted (ascend Ks []),
      chain_length (length ks),
      chain_length (length Ks),
    ))
drawn_count Four ss ts Ss Ts h H e E =
    length-append (ascend ss ts) _
    ∙ omega (arith, ascend_length ss ts h, ascend_length Ss Ts H, length_inverted (ascend Ss Ts))
drawn_count Six vs ts Ks Ts h H e E =
    ap suc (length-append (descend vs) _)
    ∙ rw (e, E) (omega (arith, descend_length vs, ascend_length Ks [] (omega arith), length_inverted (ascend Ks [])))

pub generated_count : (f : Forms) → FormsFit f
    → length (generated f) ≡ steps_from f.figure (length f.first) (length f.last) (ones f.first + ones f.beside + ones f.last + ones f.beside_last)
generated_count f fits =
    drawn_count f.figure f.first f.beside f.last f.beside_last fits.beside fits.beside_last fits.alone fits.alone_last

alone_none : (figure : Figure) → Alone figure []
alone_none Two = refl
alone_none Four = tt
alone_none Six = refl

pub lone_fits : (figure : Figure) (ss Ss : List Bool) → length ss ≤ last_place → length Ss ≤ last_place → FormsFit (lone figure ss Ss)
lone_fits figure ss Ss h H = record {
  first = h;
  beside = omega arith;
  last = H;
  beside_last = omega arith;
  alone = alone_none figure;
  alone_last = alone_none figure;
}

-- each has a swap at least
pub drawn_some : (figure : Figure) (ss ts Ss Ts : List Bool) → 0 < length (drawn figure ss ts Ss Ts)
unfolding drawn dual hybrid
drawn_some Two ss ts Ss Ts = omega (arith, drawn_count Two ss [] Ss [] (omega arith) (omega arith) refl refl)
drawn_some Four ss ts Ss Ts = rw length-append (omega arith)
drawn_some Six ss ts Ss Ts = omega arith

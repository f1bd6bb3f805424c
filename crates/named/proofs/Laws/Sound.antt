-- Every step of a generated program has two different registers for target and source, in swp the smaller first: the generators
-- write eight steps and their opposites.
use mathlib.Core.Bool.{Bool, true, false, not}
use mathlib.Core.List.{List, [], ◌∷◌}
use Prim.Native.Nat.{ℕ}
use lib.Dec.{T, ltb, eqb, ltb→lt, T_not, eqb_refl}
use lib.ListN.{length}
use Rattle.fibonacci.specs.Forms.{pad}
use Rattle.tape.specs.declared.Step.{Step}
use Rattle.tape.specs.declared.Step.TheVariants.{Mul, Swp}
use Rattle.tape.specs.Steps.{Distinct, Sound, AllSound}
use Rattle.machine.specs.Machine.{inverted}
use Rattle.machine.proofs.Laws.Steps.{sound_append, sound_inverted}
use Rattle.named.specs.declared.Figure.{Figure}
use Rattle.named.specs.declared.Figure.TheVariants.{Two, Four, Six}
use Rattle.named.specs.Generators.{select, lowest, higher, ascend, chain, down_steps, descend, basic, dual, hybrid, drawn}

apart : (t s : ℕ) → T (ltb t 4) → T (ltb s 4) → T (not (eqb t s)) → Distinct t s
apart t s ht hs ne =
    record { target_is_one = ltb→lt t 4 ht; source_is_one = ltb→lt s 4 hs; differ = λ e. T_not (eqb t s) ne (rw (← e) (eqb_refl t)) }

mul_sound : (t s : ℕ) → T (ltb t 4) → T (ltb s 4) → T (not (eqb t s)) → Sound (Mul t s)
mul_sound t s ht hs ne = apart t s ht hs ne

swp_sound : (t s : ℕ) → T (ltb t 4) → T (ltb s 4) → T (not (eqb t s)) → T (ltb t s) → Sound (Swp t s)
swp_sound t s ht hs ne less = (apart t s ht hs ne, ltb→lt t s less)

sound_select : (b : Bool) (x : Step) (xs : List Step) → Sound x → AllSound xs → AllSound (select b x xs)
sound_select true x xs s a = (s, a)
sound_select false x xs s a = a

pub sound_ascend : (ss ts : List Bool) → AllSound (ascend ss ts)
unfolding ascend
sound_ascend [] ts = tt
sound_ascend (s ∷ ss) ts = (
  mul_sound 0 1 tt tt tt,
  (
    swp_sound 0 1 tt tt tt tt,
    sound_select s (Mul 2 1) _ (mul_sound 2 1 tt tt tt)
        (sound_select (lowest ts) (Mul 3 1) _ (mul_sound 3 1 tt tt tt) (sound_ascend ss (higher ts))),
  ),
)

sound_descend : (bs : List Bool) → AllSound (descend bs)
unfolding descend
sound_descend [] = tt
sound_descend (b ∷ bs) =
    sound_append (descend bs) (down_steps b) (sound_descend bs)
    (sound_select b _ _ (mul_sound _ _ tt tt tt) (mul_sound 1 2 tt tt tt, (swp_sound 1 2 tt tt tt tt, tt)))

pub sound_drawn : (figure : Figure) (ss ts Ss Ts : List Bool) → AllSound (drawn figure ss ts Ss Ts)
unfolding drawn basic dual hybrid
sound_drawn Two ks ts Ks Ts =
    sound_append (ascend ks []) _ (sound_ascend ks [])
    (sound_append (inverted (chain (length ks))) _ (sound_inverted (chain (length ks)) (sound_ascend (pad (length ks) []) [])) (
      swp_sound 1 2 tt tt tt tt,
      sound_append (chain (length Ks)) _ (sound_ascend (pad (length Ks) []) []) (sound_inverted (ascend Ks []) (sound_ascend Ks [])),
    ))
sound_drawn Four ss ts Ss Ts =
    sound_append (ascend ss ts) _ (sound_ascend ss ts)
    (swp_sound 0 2 tt tt tt tt, (swp_sound 1 3 tt tt tt tt, sound_inverted (ascend Ss Ts) (sound_ascend Ss Ts)))
sound_drawn Six vs ts Ks Ts = (
  swp_sound 0 1 tt tt tt tt,
  sound_append (descend vs) _ (sound_descend vs)
      (swp_sound 0 1 tt tt tt tt, (swp_sound 1 2 tt tt tt tt, sound_inverted (ascend Ks []) (sound_ascend Ks []))),
)

-- The starred figures, computed from the definitions. Two go by a law that spares a search: the form of v by a bound on its places,
-- and G(v) by Lemma 1.
use mathlib.Core.Path.{◌≡◌, refl, ap, ◌∙◌}
use mathlib.Core.Bool.{Bool}
use mathlib.Core.List.{List, [], ◌∷◌}
use Prim.Native.Nat.{ℕ}
use native.Mathlib.Omega.{arith}
use lib.IntN.{pos, negsuc}
use lib.ListN.{length}
use Rattle.modular.specs.Search.{greatest}
use Rattle.modular.specs.Residues.{times, remainder}
use Rattle.modular.specs.Inverses.{inverse}
use Rattle.fibonacci.specs.Fibonacci.{fib, lucas}
use Rattle.fibonacci.specs.Forms.{places_from, pad, greedy, zeckendorf}
use Rattle.fibonacci.specs.Height.{reaches, first_from, height, odd_height}
use Rattle.fibonacci.specs.Hofstadter.{G}
use Rattle.fibonacci.proofs.Laws.Hofstadter.{G-multiple}
use Rattle.fibonacci.proofs.Laws.Zeckendorf.{zeckendorf_by}
use Rattle.tape.specs.declared.Step.{Step}
use Rattle.machine.specs.Machine.{apply, inverse_step, do_all, run, inverted}
use Rattle.machine.specs.Exponents.{shift, shift_all, exponents_at}
use Rattle.named.specs.Generators.{drawn, generated, ascend, descend, basic, dual, hybrid}
use Rattle.named.specs.Named.{basic_forms, dual_forms, hybrid_forms, forms_in, named_steps}
use Rattle.named.specs.Figures.{AllHold, starred}

-- G(v), of v = 76 × F_12
G-v : G 10944 ≡ 6764
unfolding fib lucas
G-v = G-multiple 11 76 refl (omega arith)

-- the hybrid's steps, with the form of v from its first 24 places
steps_v : generated (hybrid_forms 179 76) ≡ hybrid (greedy 24 10944) (pad 11 (zeckendorf 106))
unfolding hybrid_forms drawn odd_height first_from reaches lucas fib inverse greatest
steps_v = ap (λ (form : List Bool). hybrid form (pad 11 (zeckendorf 106))) (zeckendorf_by 24 10944 (omega arith))

steps_count : length (generated (hybrid_forms 179 76)) ≡ 76
unfolding hybrid descend ascend inverted inverse_step zeckendorf greedy pad fib
steps_count = ap length steps_v ∙ refl

last_exponents : exponents_at (generated (hybrid_forms 179 76)) 76 ≡ pos 0 ∷ pos 76 ∷ negsuc 8054 ∷ pos 0 ∷ []
unfolding hybrid descend ascend inverted inverse_step zeckendorf greedy pad fib shift_all shift
last_exponents = ap (λ (xs : List Step). exponents_at xs 76) steps_v ∙ refl

pub starred_hold : AllHold starred
unfolding named_steps forms_in basic_forms dual_forms hybrid_forms drawn basic dual hybrid ascend descend inverted inverse_step run do_all apply times remainder inverse greatest zeckendorf greedy pad places_from height odd_height first_from reaches lucas fib
starred_hold = (refl, (refl, (refl, (refl, (refl, (ap (λ (n : ℕ). pos n ∷ []) G-v, (refl, (refl, (refl, (refl, (ap (λ (n : ℕ). pos n ∷ []) steps_count, (last_exponents, (refl, (refl, tt))))))))))))))

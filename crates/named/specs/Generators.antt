-- REQUIREMENTS 4: the steps of a program, generated from Fibonacci forms (lists of bits, place 1 first).
use Rattle.std.specs.Prelude.{◌≡◌, Bool, true, false, List, [], ◌∷◌, ◌++◌, ℕ, ◌+◌, ◌*◌, ◌%◌, ◌^◌, length}
use Rattle.fibonacci.specs.Forms.{pad}
use Rattle.tape.specs.declared.Step.{Step}
use Rattle.tape.specs.declared.Step.TheVariants.{Mul, Swp}
use Rattle.modular.specs.Residues.{Residue}
use Rattle.machine.specs.Machine.{inverted, do_all, undo_all, start}
use Rattle.named.specs.declared.Figure.{Figure}
use Rattle.named.specs.declared.Figure.TheVariants.{Two, Four, Six}

-- a step for a place that is set
abbrev pub select : Bool → Step → List Step → List Step
select true x xs = x ∷ xs
select false x xs = xs

-- the lowest place of a form, and the form above it; a form that has ended has no more places set
abbrev pub lowest : List Bool → Bool
lowest [] = false
lowest (b ∷ bs) = b

abbrev pub higher : List Bool → List Bool
higher [] = []
higher (b ∷ bs) = bs

-- Going up: for each place of the first form a chain step, mul 0 1 and swp 0 1, then the selected multiplications, mul 2 1 for the
-- first form and mul 3 1 for the second.
unfoldable pub ascend : List Bool → List Bool → List Step
ascend [] ts = []
ascend (s ∷ ss) ts = Mul 0 1 ∷ Swp 0 1 ∷ select s (Mul 2 1) (select (lowest ts) (Mul 3 1) (ascend ss (higher ts)))

-- n chain steps with nothing selected
abbrev pub chain : ℕ → List Step
chain n = ascend (pad n []) []

-- a place coming down: mul 2 0 where it is set, then mul 1 2, swp 1 2
abbrev pub down_steps : Bool → List Step
down_steps b = select b (Mul 2 0) (Mul 1 2 ∷ Swp 1 2 ∷ [])

-- Coming down, from the highest place.
unfoldable pub descend : List Bool → List Step
descend [] = []
descend (b ∷ bs) = descend bs ++ down_steps b

-- Figure 2: up the form of k and the chain back; swap; the chain up and the form of K back
unfoldable pub basic : List Bool → List Bool → List Step
basic ks Ks = ascend ks [] ++ (inverted (chain (length ks)) ++ Swp 1 2 ∷ (chain (length Ks) ++ inverted (ascend Ks [])))

-- Figure 4: up two forms; swap both pairs; two forms back
unfoldable pub dual : List Bool → List Bool → List Bool → List Bool → List Step
dual ss ts Ss Ts = ascend ss ts ++ Swp 0 2 ∷ Swp 1 3 ∷ inverted (ascend Ss Ts)

-- Figure 6: swp 0 1; down the form of v; the reordering; the form of K back
unfoldable pub hybrid : List Bool → List Bool → List Step
hybrid vs Ks = Swp 0 1 ∷ (descend vs ++ Swp 0 1 ∷ Swp 1 2 ∷ inverted (ascend Ks []))

-- The forms that a program is drawn from, and the figure that draws it: `first` is the form of its first loop and `last` that of its
-- last, which is taken back; Figure 4 selects two more beside them.
pub record Forms : Type 0 where
  pub figure : Figure
  pub first : List Bool
  pub beside : List Bool
  pub last : List Bool
  pub beside_last : List Bool

-- a first and a last form with nothing beside them
abbrev pub lone : Figure → List Bool → List Bool → Forms
lone figure first last = record { figure = figure; first = first; beside = []; last = last; beside_last = [] }

-- the steps that a figure draws from forms
unfoldable pub drawn : Figure → List Bool → List Bool → List Bool → List Bool → List Step
drawn Two ks none Ks none' = basic ks Ks
drawn Four ss ts Ss Ts = dual ss ts Ss Ts
drawn Six vs none Ks none' = hybrid vs Ks

abbrev pub generated : Forms → List Step
generated f = drawn f.figure f.first f.beside f.last f.beside_last

-- how many they are (`generated_count` of proofs/Laws/Lengths), by the lengths of the first and the last form and how many places
-- are set in all
abbrev pub steps_from : Figure → ℕ → ℕ → ℕ → ℕ
steps_from Two m n ones = 4 * m + 4 * n + 1 + ones
steps_from Four m n ones = 2 * m + 2 * n + 2 + ones
steps_from Six m n ones = 2 * m + 2 * n + 3 + ones

-- The steps raise to the k-th power: they take (1, a, 1, 1) to (1, a^k, 1, 1) for every a from 1 to p - 1 with a^r = 1 modulo p.
abbrev pub Raises : ℕ → ℕ → ℕ → List Step → Type 0
Raises p r k xs = (a : ℕ) → Residue p a → a ^ r % p ≡ 1 → do_all p xs (start a) ≡ start (a ^ k % p)

-- Undone, they take (1, b, 1, 1) to (1, b^K, 1, 1), for every b from 1 to p - 1 with b^r = 1 modulo p.
abbrev pub UndoneRaises : ℕ → ℕ → ℕ → List Step → Type 0
UndoneRaises p r K xs = (b : ℕ) → Residue p b → b ^ r % p ≡ 1 → undo_all p xs (start b) ≡ start (b ^ K % p)

-- What a variant promises of the forms that it picks and of the programs drawn from them.
use Rattle.std.specs.Prelude.{◌≡◌, Bool, true, List, [], ◌∷◌, map, ℕ, ◌≤◌, ◌<◌, length}
use Rattle.modular.specs.Primes.{Prime}
use Rattle.modular.specs.Inverses.{inverse}
use Rattle.fibonacci.specs.Services.{last_place}
use Rattle.tape.specs.declared.Step.{Step}
use Rattle.tape.specs.Steps.{AllSound}
use Rattle.tape.specs.Words.{number_limit}
use Rattle.tape.specs.Layout.{max_steps}
use Rattle.machine.specs.Exponents.{start_exponents, exponents_at, stays_in_range, residue_of}
use Rattle.named.specs.declared.Figure.{Figure}
use Rattle.named.specs.declared.Figure.TheVariants.{Two, Four, Six}
use Rattle.named.specs.Generators.{Forms, Raises, UndoneRaises}

-- ---- the forms

-- only figure 4 selects a form beside another
abbrev pub Alone : Figure → List Bool → Type 0
Alone Two bs = bs ≡ []
Alone Four bs = Unit {0}
Alone Six bs = bs ≡ []

-- each has 92 places at most, and one beside another no more than it
pub record FormsFit (f : Forms) : Type 0 where
  pub first : length f.first ≤ last_place
  pub beside : length f.beside ≤ length f.first
  pub last : length f.last ≤ last_place
  pub beside_last : length f.beside_last ≤ length f.last
  pub alone : Alone f.figure f.beside
  pub alone_last : Alone f.figure f.beside_last

-- ---- the programs

-- xs is a program for the k-th power of what has order r, or an order that divides r
pub record IsProgram (r k : ℕ) (xs : List Step) : Type 0 where
  -- never empty, and each step has two different registers
  pub some : 0 < length xs
  pub sound : AllSound xs
  -- done, it takes (1, a, 1, 1) to (1, a^k, 1, 1); undone, (1, b, 1, 1) to (1, b^K, 1, 1)
  pub raises : (p : ℕ) → Prime p → Raises p r k xs
  pub undone_raises : (p : ℕ) → Prime p → UndoneRaises p r (inverse r k) xs
  -- the last exponents are (0, k, 0, 0) modulo r
  pub ends : map (residue_of r) (exponents_at xs (length xs)) ≡ 0 ∷ k ∷ 0 ∷ 0 ∷ []
  -- where a word holds r, it is short enough for a tape and at no position an exponent leaves its range
  pub short : r < number_limit → length xs ≤ max_steps
  pub stays : r < number_limit → stays_in_range xs start_exponents ≡ true

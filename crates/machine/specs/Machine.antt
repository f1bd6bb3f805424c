-- Four registers, numbered 0 to 3, hold residues from 1 to p - 1. What a step makes of them, done and undone, and going from one
-- position to another.
use Rattle.std.specs.Prelude.{cond, ◌≡◌, List, [], ◌∷◌, ◌++◌, ℕ, ◌<◌, leb, length, get_or, set}
use Rattle.std.proofs.Math.Seq.{slice}
use Rattle.modular.specs.Residues.{Residue, times}
use Rattle.modular.specs.Inverses.{inverse}
use Rattle.tape.specs.declared.Step.{Step}
use Rattle.tape.specs.declared.Step.TheVariants.{Mul, Div, Swp}
use Rattle.machine.specs.declared.Registers.{Registers}

-- what the four registers of the code hold, by their numbers
abbrev pub values_of : Registers → List ℕ
values_of registers = registers.c ∷ registers.d ∷ registers.e ∷ registers.f ∷ []

-- register i
abbrev pub reg : List ℕ → ℕ → ℕ
reg v i = get_or v i 0

-- mul: target becomes target × source; div: target becomes target × inverse of source; swp: the two are exchanged; all modulo p
unfoldable pub apply : ℕ → Step → List ℕ → List ℕ
apply p (Mul t s) v = set v t (times p (reg v t) (reg v s))
apply p (Div t s) v = set v t (times p (reg v t) (inverse p (reg v s)))
apply p (Swp t s) v = set (set v t (reg v s)) s (reg v t)

-- undone, mul is div, div is mul, swp is swp
unfoldable pub inverse_step : Step → Step
inverse_step (Mul t s) = Div t s
inverse_step (Div t s) = Mul t s
inverse_step (Swp t s) = Swp t s

-- the steps of a list done one after another, and undone from the last to the first
unfoldable pub do_all : ℕ → List Step → List ℕ → List ℕ
do_all p [] v = v
do_all p (x ∷ xs) v = do_all p xs (apply p x v)

unfoldable pub undo_all : ℕ → List Step → List ℕ → List ℕ
undo_all p [] v = v
undo_all p (x ∷ xs) v = apply p (inverse_step x) (undo_all p xs v)

-- From position i to position j: the steps numbered i + 1 to j done, or those numbered j + 1 to i undone.
unfoldable pub run : ℕ → List Step → ℕ → ℕ → List ℕ → List ℕ
run p xs i j v = cond (leb i j) (do_all p (slice i j xs) v) (undo_all p (slice j i xs) v)

-- a list of steps taken back: the opposite steps in reverse order
unfoldable pub inverted : List Step → List Step
inverted [] = []
inverted (x ∷ xs) = inverted xs ++ inverse_step x ∷ []

-- four residues
pub record Residues (p : ℕ) (v : List ℕ) : Type 0 where
  pub four : length v ≡ 4
  pub residue : (i : ℕ) → i < 4 → Residue p (reg v i)

-- the registers that a program starts from and ends at
abbrev pub start : ℕ → List ℕ
start a = 1 ∷ a ∷ 1 ∷ 1 ∷ []

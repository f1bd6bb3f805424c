-- What a run from one position to another and a count of its steps are given, and the words that a run goes through.
use Rattle.std.specs.Prelude.{◌≡◌, true, cond, List, ℕ, ◌%◌, ◌≤◌, ltb, length}
use Rattle.modular.specs.Primes.{Prime}
use Rattle.tape.specs.Layout.{part, all_steps}
use Rattle.machine.specs.Machine.{Residues}

-- the words of the steps between two positions, of which either may be the larger
unfoldable pub between : List ℕ → ℕ → ℕ → List ℕ
between words i j = cond (ltb j i) (part words j i) (part words i j)

-- the words of steps, and two positions among them
pub record Inside (words : List ℕ) (from goal : ℕ) : Type 0 where
  pub are_steps : all_steps words ≡ true
  pub from_inside : from ≤ length words
  pub goal_inside : goal ≤ length words

-- and four residues modulo an odd prime
pub record Runnable (words : List ℕ) (p : ℕ) (registers : List ℕ) (from goal : ℕ) : Type 0 where
  pub inside : Inside words from goal
  pub prime : Prime p
  pub odd : p % 2 ≡ 1
  pub residues : Residues p registers

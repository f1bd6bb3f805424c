-- REQUIREMENTS 8, trace: what is said of every answer of it.
use Rattle.std.specs.Prelude.{◌≡◌, true, List, map, ℕ, ℤ}
use Rattle.refusal.specs.declared.Refusal.TheVariants.{Range}
use Rattle.refusal.specs.Refusals.{number_of}
use Rattle.refusal.specs.Outcomes.{Outcome, refused, answered}
use Rattle.modular.specs.Residues.{Residue}
use Rattle.tape.specs.Layout.{header_of, steps_of}
use Rattle.machine.specs.Machine.{run, start}
use Rattle.machine.specs.Exponents.{power_of}
use Rattle.program.specs.Services.{is_named, check_outcome}

-- no accepted named program leaves the range: its trace isn't refused with 12
abbrev pub NeverOutside : List ℕ → Outcome (List ℤ) → Type 0
NeverOutside tape answer = is_named (header_of tape) ≡ true → check_outcome tape ≡ answered 0 → ¬ (answer ≡ refused (number_of Range))

-- an answer's exponents are those of the registers: from (1, a, 1, 1) a run to that position makes a to each exponent, modulo p
abbrev pub MeansPowers : List ℕ → ℕ → Outcome (List ℤ) → Type 0
MeansPowers tape position answer =
    let p = (header_of tape).modulus in
    (z : List ℤ) → answer ≡ answered z → (a : ℕ) → Residue p a → run p (steps_of tape) 0 position (start a) ≡ map (power_of p a) z

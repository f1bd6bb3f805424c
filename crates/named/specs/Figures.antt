-- REQUIREMENTS 12: those with a star, each beside what document 01 says.
use Rattle.std.specs.Prelude.{◌≡◌, List, [], ◌∷◌, map, ℕ, suc, ◌*◌, ℤ, pos, negsuc, length}
use Rattle.modular.specs.Inverses.{inverse}
use Rattle.fibonacci.specs.Fibonacci.{fib}
use Rattle.fibonacci.specs.Forms.{places, zeckendorf}
use Rattle.fibonacci.specs.Hofstadter.{G}
use Rattle.fibonacci.specs.Height.{height, odd_height}
use Rattle.tape.specs.declared.Step.{Step}
use Rattle.machine.specs.Machine.{run, start}
use Rattle.machine.specs.Exponents.{exponents_at}
use Rattle.named.specs.Named.{named_steps}

-- what the definitions give, and what document 01 says
pub record Figure : Type 0 where
  pub given : List ℤ
  pub stated : List ℤ

abbrev pub numbers : List ℕ → List ℤ
numbers ns = map pos ns

abbrev pub number : ℕ → List ℤ
number n = pos n ∷ []

-- from the start to the end of a program
abbrev pub run_whole : ℕ → List Step → List ℕ → List ℕ
run_whole p xs v = run p xs 0 (length xs) v

abbrev pub starred : List Figure
starred =
    -- p = 7, r = 3, k = 2, a = 2, basic: 19 steps, ends (1, 4, 1, 1)
    record { given = number (length (named_steps 1 3 2)); stated = number 19 }
    ∷ record { given = numbers (run_whole 7 (named_steps 1 3 2) (start 2)); stated = numbers (1 ∷ 4 ∷ 1 ∷ 1 ∷ []) }
    -- case A with a = 2 ends (1, 2, 1, 1)
    ∷ record { given = numbers (run_whole 3 (named_steps 1 2 1) (start 2)); stated = numbers (1 ∷ 2 ∷ 1 ∷ 1 ∷ []) }
    -- r = 179, k = 76: K = 106; v = 10944, G(v) = 6764
    ∷ record { given = number (inverse 179 76); stated = number 106 }
    ∷ record { given = number (76 * fib (suc (odd_height 179))); stated = number 10944 }
    ∷ record { given = number (G 10944); stated = number 6764 }
    -- 106 has places 10, 6, 3, 1; 76 has 9, 7
    ∷ record { given = numbers (places (zeckendorf 106)); stated = numbers (10 ∷ 6 ∷ 3 ∷ 1 ∷ []) }
    ∷ record { given = numbers (places (zeckendorf 76)); stated = numbers (9 ∷ 7 ∷ []) }
    -- the steps are 83 basic, 59 dual, 76 hybrid
    ∷ record { given = number (length (named_steps 1 179 76)); stated = number 83 }
    ∷ record { given = number (length (named_steps 2 179 76)); stated = number 59 }
    ∷ record { given = number (length (named_steps 3 179 76)); stated = number 76 }
    -- the hybrid's last exponents are (0, 76, -8055, 0)
    ∷ record { given = exponents_at (named_steps 3 179 76) 76; stated = pos 0 ∷ pos 76 ∷ negsuc 8054 ∷ pos 0 ∷ [] }
    -- h for 199 and for 200
    ∷ record { given = number (height 199); stated = number 11 }
    ∷ record { given = number (height 200); stated = number 12 }
    ∷ []

-- every row of a table holds
abbrev pub AllHold : List Figure → Type 0
AllHold [] = Unit {0}
AllHold (row ∷ table) = (row.given ≡ row.stated) × AllHold table

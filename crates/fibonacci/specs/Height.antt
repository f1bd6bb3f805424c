-- h, the least positive number with r < phi^h, by document 01's test in whole numbers.
use Rattle.std.specs.Prelude.{Bool, true, false, ◌&&◌, cond, ℕ, zero, suc, ◌-◌, leb}
use Rattle.fibonacci.specs.Fibonacci.{lucas, odd}

-- r < phi^h: r ≤ L_h for odd h, r ≤ L_h - 1 for even h
unfoldable pub reaches : ℕ → ℕ → Bool
reaches r h = cond (odd h) (leb r (lucas h)) (leb r (lucas h - 1))

-- the first of the n numbers from i on that passes the test; i + n where none does
unfoldable pub first_from : (ℕ → Bool) → ℕ → ℕ → ℕ
first_from f zero i = i
first_from f (suc n) i = elim (f i) [ true ↦ i | false ↦ first_from f n (suc i) ]

-- document 01's h; r numbers are enough to find it (`height_least` of proofs/Laws/Height)
unfoldable pub height : ℕ → ℕ
height r = first_from (reaches r) r 1

-- document 01's ℓ': the least odd number with r < phi^ℓ' (`odd_height_is` of proofs/Laws/Height: h or h + 1)
unfoldable pub odd_height : ℕ → ℕ
odd_height r = first_from (λ (l : ℕ). odd l && reaches r l) (suc r) 1

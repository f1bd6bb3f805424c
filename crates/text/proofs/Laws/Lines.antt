-- A line put word by word, each with its blank or with byte 10 behind it; and how long a line is.
use mathlib.Core.Path.{◌≡◌, ◌∙◌}
use mathlib.Core.List.{List, [], ◌∷◌, ◌++◌, map}
use Prim.Native.Nat.{ℕ, zero, suc, ◌+◌, ◌*◌, ◌≤◌, ◌<◌}
use native.Mathlib.Omega.{arith}
use lib.ListN.{length, get_or, length-append, length-map}
use Rattle.text.specs.Text.{decimal, blank, newline, line, numbers_line}
use Rattle.text.specs.Rows.{Put}
use Rattle.text.proofs.Laws.Decimal.{decimal_32}
use Rattle.text.proofs.Laws.Puts.{puts_join}

pub put_word : {a b c : List ℕ} {at m n : ℕ} (w v : List ℕ) (words : List (List ℕ))
    → Put a at (w ++ blank ∷ []) m b → Put b m (line (v ∷ words)) n c → Put a at (line (w ∷ v ∷ words)) n c
unfolding line
put_word w v words p q = puts_join p q

pub put_last : {a b : List ℕ} {at n : ℕ} (w : List ℕ) → Put a at (w ++ newline ∷ []) n b → Put a at (line (w ∷ [])) n b
unfolding line
put_last w p = p

-- a line has each word with a byte behind it
abbrev pub with_bytes : List (List ℕ) → ℕ
with_bytes [] = 0
with_bytes (w ∷ words) = length w + 1 + with_bytes words

pub line_length : (w : List ℕ) (words : List (List ℕ)) → length (line (w ∷ words)) ≡ with_bytes (w ∷ words)
unfolding line
line_length w [] = length-append w (newline ∷ []) ∙ omega arith
line_length w (v ∷ words) =
    length-append (w ++ blank ∷ []) (line (v ∷ words)) ∙ omega (arith, length-append w (blank ∷ []), line_length v words)

-- words of no more bytes than some number each
pub line_most : (most : ℕ) (words : List (List ℕ)) → ((i : ℕ) → length (get_or words i []) ≤ most) → length (line words) ≤ length words * (most + 1) + 1
unfolding line
line_most most [] short = omega arith
line_most most (w ∷ []) short = omega (arith, length-append w (newline ∷ []), short 0)
line_most most (w ∷ v ∷ words) short =
    omega
    (arith, length-append (w ++ blank ∷ []) (line (v ∷ words)), length-append w (blank ∷ []), short 0, line_most most (v ∷ words) (λ i. short (suc i)))

-- a line of numbers
decimals_short : (values : List ℕ) → ((i : ℕ) → get_or values i 0 < 4294967296) → (i : ℕ) → length (get_or (map decimal values) i []) ≤ 10
decimals_short [] small i = omega arith
decimals_short (n ∷ values) small zero = decimal_32 n (small 0)
decimals_short (n ∷ values) small (suc i) = decimals_short values (λ j. small (suc j)) i

pub numbers_most : (values : List ℕ) → ((i : ℕ) → get_or values i 0 < 4294967296) → length (numbers_line values) ≤ length values * 11 + 1
numbers_most values small = omega (arith, line_most 10 (map decimal values) (decimals_short values small), length-map values decimal)

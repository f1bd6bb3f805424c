-- The bytes of a text, of a number, of a whole number and of a line.
use Rattle.std.specs.Prelude.{cond, List, [], ◌∷◌, ◌++◌, map, ℕ, zero, suc, ◌+◌, ◌/◌, ◌%◌, ltb, ℤ, pos, negsuc}
use Prim.Native.Char.{code}
use Prim.Native.String.{String, len, char_at}

-- the bytes of a text of ASCII characters: `count` of them from an index on, and all
abbrev pub codes : String → ℕ → ℕ → List ℕ
codes text from zero = []
codes text from (suc count) = code (char_at text from) ∷ codes text (suc from) count

abbrev pub ascii : String → List ℕ
ascii text = codes text 0 (len text)

-- a number's decimal digits, without leading zeros and 0 as "0"; fuel above the number is enough (`decimal_again` of Laws/Decimal)
unfoldable pub decimal_within : ℕ → ℕ → List ℕ
decimal_within zero n = []
decimal_within (suc fuel) n = cond (ltb n 10) [] (decimal_within fuel (n / 10)) ++ (code "0" + n % 10) ∷ []

unfoldable pub decimal : ℕ → List ℕ
decimal n = decimal_within (suc n) n

-- a whole number: a minus sign in front of one below 0; `negsuc n` is -(n + 1)
unfoldable pub whole : ℤ → List ℕ
whole (pos n) = decimal n
whole (negsuc n) = code "-" ∷ decimal (suc n)

abbrev pub blank : ℕ
blank = code " "

abbrev pub newline : ℕ
newline = 10

-- words with one blank between; every line ends with byte 10
unfoldable pub line : List (List ℕ) → List ℕ
line [] = newline ∷ []
line (w ∷ []) = w ++ newline ∷ []
line (w ∷ v ∷ words) = w ++ blank ∷ [] ++ line (v ∷ words)

-- numbers on a line
abbrev pub numbers_line : List ℕ → List ℕ
numbers_line values = line (map decimal values)

abbrev pub number_line : ℕ → List ℕ
number_line n = numbers_line (n ∷ [])

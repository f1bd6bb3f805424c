-- A word quoted, so that whatever bytes it has show as ASCII characters on one line, and a long one is cut.
use Rattle.std.specs.Prelude.{Bool, not, ◌&&◌, cond, List, [], ◌∷◌, ◌++◌, ℕ, ◌+◌, ◌-◌, ◌/◌, ◌%◌, leb, ltb, eqb, length, take}
use Prim.Native.Char.{code}
use Rattle.text.specs.Text.{ascii}

abbrev pub quote : ℕ
quote = 34

abbrev pub backslash : ℕ
backslash = 92

-- a digit below 16, as a lower-case hexadecimal one
unfoldable pub hex_digit : ℕ → ℕ
hex_digit d = cond (ltb d 10) (code "0" + d) (code "a" + (d - 10))

-- bytes that stand for themselves: blanks and what has a glyph, but for the two that quoting uses
unfoldable pub is_plain : ℕ → Bool
is_plain byte = leb 32 byte && leb byte 126 && not (eqb byte quote) && not (eqb byte backslash)

unfoldable pub escaped : ℕ → List ℕ
escaped byte = cond (is_plain byte) (byte ∷ []) (backslash ∷ code "x" ∷ hex_digit (byte / 16) ∷ hex_digit (byte % 16) ∷ [])

unfoldable pub escapes : List ℕ → List ℕ
escapes [] = []
escapes (byte ∷ bytes) = escaped byte ++ escapes bytes

-- so many bytes of a word are shown
abbrev pub shown : ℕ
shown = 64

-- dots for what isn't shown
unfoldable pub quoted : List ℕ → List ℕ
quoted word = quote ∷ [] ++ escapes (take shown word) ++ cond (leb (length word) shown) [] (ascii "...") ++ quote ∷ []

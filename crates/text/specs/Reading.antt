-- Numbers and words read from bytes.
use Rattle.std.specs.Prelude.{Option, Some, None, Bool, true, ◌&&◌, cond, List, [], ◌∷◌, ℕ, zero, suc, ◌+◌, ◌-◌, ◌*◌, ◌≤◌, leb, ltb, eqb, get_or, drop}
use Prim.Native.Char.{code}

-- ---- numbers

-- whether a byte stands from one to another
abbrev pub within : ℕ → ℕ → ℕ → Bool
within first last byte = leb first byte && leb byte last

-- a digit's value, of bases up to 16; 16 for a byte that is no digit
unfoldable pub digit_of : ℕ → ℕ
digit_of byte =
    cond (within (code "0") (code "9") byte) (byte - code "0")
    (cond (within (code "a") (code "f") byte) (byte - code "a" + 10)
    (cond (within (code "A") (code "F") byte) (byte - code "A" + 10) 16))

unfoldable pub all_digits : ℕ → List ℕ → Bool
all_digits base [] = true
all_digits base (byte ∷ text) = ltb (digit_of byte) base && all_digits base text

-- the number that has the digits of n and then those of the text
unfoldable pub value_from : ℕ → ℕ → List ℕ → ℕ
value_from base n [] = n
value_from base n (byte ∷ text) = value_from base (base * n + digit_of byte) text

-- digits alone, and not above `most`
unfoldable pub number_from : ℕ → ℕ → ℕ → List ℕ → Option ℕ
number_from base most n text = cond (all_digits base text && leb (value_from base n text) most) (Some (value_from base n text)) None

-- at least one digit; zeros in front are let pass
unfoldable pub in_base : ℕ → ℕ → List ℕ → Option ℕ
in_base base most [] = None
in_base base most (byte ∷ text) = number_from base most 0 (byte ∷ text)

-- whether a text begins with `0x`
unfoldable pub is_hexadecimal : List ℕ → Bool
is_hexadecimal text = eqb (get_or text 0 0) (code "0") && eqb (get_or text 1 0) (code "x")

-- hexadecimal digits behind `0x`, or decimal ones
unfoldable pub parse_number : ℕ → List ℕ → Option ℕ
parse_number most text = cond (is_hexadecimal text) (in_base 16 most (drop 2 text)) (in_base 10 most text)

-- a number that was read is at most the largest
abbrev pub Small : ℕ → Option ℕ → Type 0
Small most (Some n) = n ≤ most
Small most None = 0 ≤ most

-- ---- words

-- the bytes in front of the first zero byte, and those past it
unfoldable pub first_word : List ℕ → List ℕ
first_word [] = []
first_word (zero ∷ bytes) = []
first_word (suc b ∷ bytes) = suc b ∷ first_word bytes

unfoldable pub past_word : List ℕ → List ℕ
past_word [] = []
past_word (zero ∷ bytes) = bytes
past_word (suc b ∷ bytes) = past_word bytes

-- a byte in front of the first of some words
abbrev pub in_front : ℕ → List (List ℕ) → List (List ℕ)
in_front b [] = (b ∷ []) ∷ []
in_front b (word ∷ words) = (b ∷ word) ∷ words

-- words that a zero byte each ends; the last may lack it where it isn't empty
unfoldable pub split_words : List ℕ → List (List ℕ)
split_words [] = []
split_words (zero ∷ bytes) = [] ∷ split_words bytes
split_words (suc b ∷ bytes) = in_front (suc b) (split_words bytes)

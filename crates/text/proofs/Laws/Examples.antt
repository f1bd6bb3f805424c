-- What the definitions give on small texts.
use mathlib.Core.Path.{◌≡◌, refl}
use mathlib.Core.List.{[], ◌∷◌, ◌++◌}
use lib.IntN.{pos, negsuc}
use Rattle.std.specs.Prelude.{Some, None}
use Rattle.text.specs.Text.{ascii, decimal_within, decimal, whole, line}
use Rattle.text.specs.Quoting.{hex_digit, is_plain, escaped, escapes, quoted}
use Rattle.text.specs.Reading.{digit_of, all_digits, value_from, number_from, in_base, is_hexadecimal, parse_number, split_words}

pub a_line : line (whole (pos 10) ∷ whole (negsuc 0) ∷ []) ≡ ascii "10 -1\n"
unfolding whole decimal decimal_within line
a_line = refl

-- ---- numbers

pub zeros_in_front : parse_number 255 (ascii "007") ≡ Some 7
unfolding parse_number is_hexadecimal in_base number_from all_digits value_from digit_of
zeros_in_front = refl

pub the_most : parse_number 255 (ascii "255") ≡ Some 255
unfolding parse_number is_hexadecimal in_base number_from all_digits value_from digit_of
the_most = refl

pub above_the_most : parse_number 255 (ascii "256") ≡ None
unfolding parse_number is_hexadecimal in_base number_from all_digits value_from digit_of
above_the_most = refl

pub a_sign : parse_number 255 (ascii "+7") ≡ None
unfolding parse_number is_hexadecimal in_base number_from all_digits value_from digit_of
a_sign = refl

pub no_digit : parse_number 255 [] ≡ None
unfolding parse_number is_hexadecimal in_base
no_digit = refl

pub hexadecimal_digits : parse_number 4294967295 (ascii "0x0fFa9") ≡ Some 65449
unfolding parse_number is_hexadecimal in_base number_from all_digits value_from digit_of
hexadecimal_digits = refl

pub no_hexadecimal_digit : parse_number 255 (ascii "0x") ≡ None
unfolding parse_number is_hexadecimal in_base
no_hexadecimal_digit = refl

pub past_the_digits : parse_number 255 (ascii "0xg") ≡ None
unfolding parse_number is_hexadecimal in_base number_from all_digits value_from digit_of
past_the_digits = refl

pub decimal_without_letters : parse_number 255 (ascii "1f") ≡ None
unfolding parse_number is_hexadecimal in_base number_from all_digits value_from digit_of
decimal_without_letters = refl

-- ---- words

pub three_words : split_words (ascii "run" ++ 0 ∷ 0 ∷ ascii "4 5" ++ 0 ∷ []) ≡ ascii "run" ∷ [] ∷ ascii "4 5" ∷ []
unfolding split_words
three_words = refl

pub last_without_zero : split_words (ascii "run" ++ 0 ∷ ascii "4") ≡ ascii "run" ∷ ascii "4" ∷ []
unfolding split_words
last_without_zero = refl

-- ---- words quoted

pub a_quoted_word : quoted (ascii "a" ++ 34 ∷ 127 ∷ []) ≡ 34 ∷ ascii "a" ++ 92 ∷ ascii "x22" ++ 92 ∷ ascii "x7f" ++ 34 ∷ []
unfolding quoted escapes escaped is_plain hex_digit
a_quoted_word = refl

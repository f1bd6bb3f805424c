-- The bytes of words: word by word, as many as four times the words, and read back as the words that they were.
use mathlib.Core.Path.{◌≡◌, refl, ap₂, ◌∙◌}
use mathlib.Core.List.{List, [], ◌∷◌, ◌++◌}
use Prim.Native.Nat.{ℕ, suc, ◌+◌, ◌*◌, ◌/◌, ◌%◌, ◌≤◌, ◌<◌}
use native.Mathlib.Numerals.{add-one}
use native.Mathlib.Omega.{arith}
use lib.ListN.{length, get_or, take}
use lib.Seq.{take-suc}
use Rattle.std.specs.Int.{to_le_bytes}
use mir.Syntax.{w32}
use Rattle.tape.specs.Layout.{max_words}
use Rattle.encoding.specs.Encoding.{word_of, tape_of, tape_in, bytes_of}
use Rattle.encoding.proofs.Laws.Cases.{words_whole}

-- four for each word
pub bytes_length : (words : List ℕ) → length (bytes_of words) ≡ 4 * length words
unfolding bytes_of
bytes_length [] = refl
bytes_length (w ∷ words) = omega (arith, bytes_length words)

bytes_append : (xs ys : List ℕ) → bytes_of (xs ++ ys) ≡ bytes_of xs ++ bytes_of ys
unfolding bytes_of
bytes_append [] ys = refl
bytes_append (x ∷ xs) ys = rw (bytes_append xs ys)

-- the bytes of the word at i, behind those of the words in front of it
pub bytes_more : (words : List ℕ) (i : ℕ) → i < length words
    → bytes_of (take (i + 1) words) ≡ bytes_of (take i words) ++ to_le_bytes w32 (get_or words i 0)
unfolding bytes_of
bytes_more words i h = rw (add-one i, take-suc words i 0, bytes_append)

-- ---- what is written is read back as it was

digits_back : (w x y z : ℕ) → x ≡ w / 256 → y ≡ x / 256 → z ≡ y / 256 → z < 256 → word_of (w % 256) (x % 256) (y % 256) (z % 256) ≡ w
digits_back w x y z d e f h = omega arith

two_bytes : (w : ℕ) → w / 65536 ≡ w / 256 / 256
two_bytes w = omega arith

word_back : (w : ℕ) → w < 4294967296 → word_of (w % 256) (w / 256 % 256) (w / 65536 % 256) (w / 16777216 % 256) ≡ w
word_back w h =
    let twice : w / 65536 ≡ w / 256 / 256 = two_bytes w in
    let thrice : w / 16777216 ≡ w / 65536 / 256 = omega arith in
    digits_back w (w / 256) (w / 65536) (w / 16777216) refl twice thrice (omega arith)

words_back : (words : List ℕ) → ((i : ℕ) → get_or words i 0 < 4294967296) → tape_of (bytes_of words) ≡ words
unfolding tape_of bytes_of
words_back [] h = refl
words_back (w ∷ words) h = ap₂ ◌∷◌ (word_back w (h 0)) (words_back words (λ i. h (suc i)))

-- up to the most words of a tape, each of 32 bits
pub tape_back : (words : List ℕ) → ((i : ℕ) → get_or words i 0 < 4294967296) → length words ≤ max_words → tape_in (bytes_of words) ≡ words
tape_back words h most =
    let long = bytes_length words in
    words_whole (bytes_of words) (omega arith) (omega arith) ∙ words_back words h

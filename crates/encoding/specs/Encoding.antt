-- A tape as bytes: the words that bytes give, and the bytes of words.
use Rattle.std.specs.Prelude.{Bool, not, ◌||◌, cond, List, [], ◌∷◌, ℕ, ◌+◌, ◌*◌, ◌/◌, ◌%◌, ltb, eqb, length}
use Rattle.tape.specs.Layout.{max_words}

-- the bytes of a word
abbrev pub word_bytes : ℕ
word_bytes = 4

-- the most bytes of a tape: 2048
abbrev pub max_bytes : ℕ
max_bytes = word_bytes * max_words

-- four bytes, least significant first
abbrev pub word_of : ℕ → ℕ → ℕ → ℕ → ℕ
word_of a b c d = a + 256 * (b + 256 * (c + 256 * d))

-- words of four bytes each; up to three bytes left over are no word
unfoldable pub tape_of : List ℕ → List ℕ
tape_of [] = []
tape_of (a ∷ []) = []
tape_of (a ∷ b ∷ []) = []
tape_of (a ∷ b ∷ c ∷ []) = []
tape_of (a ∷ b ∷ c ∷ d ∷ bytes) = word_of a b c d ∷ tape_of bytes

-- and back: the bytes of words
unfoldable pub bytes_of : List ℕ → List ℕ
bytes_of [] = []
bytes_of (w ∷ words) = w % 256 ∷ w / 256 % 256 ∷ w / 65536 % 256 ∷ w / 16777216 % 256 ∷ bytes_of words

-- above the most bytes of a tape, or not a multiple of 4
unfoldable pub no_tape : List ℕ → Bool
no_tape bytes = ltb max_bytes (length bytes) || not (eqb (length bytes % word_bytes) 0)

-- the tape that bytes give; those that are no tape give the empty one, which is too short to be laid out (`words_none` of Laws/Cases)
unfoldable pub tape_in : List ℕ → List ℕ
tape_in bytes = cond (no_tape bytes) [] (tape_of bytes)

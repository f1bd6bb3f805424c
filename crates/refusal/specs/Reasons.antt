-- What each refusal is given for, told to people: a text for each number, from 0, which is none, on.
use Rattle.std.specs.Prelude.{List, [], ◌∷◌}
use Prim.Native.String.{String}

unfoldable pub reasons : List String
reasons =
    ""
    ∷ "p must be a prime from 3 to 268435455"
    ∷ "r must be at least 2 and divide p-1"
    ∷ "k must be from 1 to r-1 and share no factor with r"
    ∷ "the tape's variant is none of those known"
    ∷ "the buffer is shorter than the result"
    ∷ "a tape has 5 to 512 words"
    ∷ "a word, its place or the end's count breaks the layout"
    ∷ "the steps aren't those built for the tape's p, r, k and variant"
    ∷ "the base must be from 1 to p-1"
    ∷ "a position is outside 0 to the step count"
    ∷ "the base's order isn't r"
    ∷ "an exponent leaves -2^62 to 2^62"
    ∷ "not the places of a Zeckendorf form, from 92 down to 1"
    ∷ "a row has at most 64 bases"
    ∷ []

-- Where a service gives a refusal for a cause of its own: the inverse service 2, build and raise 4, bytes that aren't whole words 6,
-- run and step 9, cut 10, list to number 12, a Fibonacci number 13.
unfoldable pub own_reasons : List String
own_reasons =
    ""
    ∷ ""
    ∷ "r must be at least 2"
    ∷ ""
    ∷ "the variant must be that of a named program"
    ∷ ""
    ∷ "standard input isn't whole words of 4 bytes"
    ∷ ""
    ∷ ""
    ∷ "each register must be from 1 to p-1"
    ∷ "first and last must be positions up to the step count, first at most last"
    ∷ ""
    ∷ "the sum of the places exceeds 64 bits"
    ∷ "the index must be at most 93"
    ∷ ""
    ∷ []

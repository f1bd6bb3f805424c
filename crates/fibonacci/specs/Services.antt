-- The services on Fibonacci numbers and forms: what each call comes to.
use Rattle.std.specs.Prelude.{Bool, true, false, not, cond, List, [], ◌∷◌, map, Option, Some, None, ℕ, ◌^◌, leb, ltb, length}
use Rattle.refusal.specs.declared.Refusal.TheVariants.{Room, Range, Index}
use Rattle.refusal.specs.Outcomes.{Outcome, outcome, ◌given_if◌, buffer_after}
use Rattle.fibonacci.specs.Fibonacci.{fib}
use Rattle.fibonacci.specs.Forms.{pad, zeckendorf, places, weight, are_places}

-- indices 0 to 93 fit 64 bits
abbrev pub last_index : ℕ
last_index = 93

-- and so do the places 1 to 92
abbrev pub last_place : ℕ
last_place = 92

-- F_i, where it fits
unfoldable pub fibonacci_of : ℕ → Option ℕ
fibonacci_of i = cond (leb i last_index) (Some (fib i)) None

-- F_i, and 0 where it does not fit
unfoldable pub fibonacci_or_zero : ℕ → ℕ
fibonacci_or_zero i = cond (leb i last_index) (fib i) 0

-- a Fibonacci number by its index
unfoldable pub fibonacci_outcome : ℕ → Outcome ℕ
fibonacci_outcome i = outcome ((Index given_if ltb last_index i) ∷ []) (fib i)

-- the list of a number: its places, highest first
abbrev pub places_of : ℕ → List ℕ
places_of n = places (zeckendorf n)

-- a bit as a number
abbrev pub bit : Bool → ℕ
bit true = 1
bit false = 0

-- the paper's bit string of a number in a row of 92, place 1 first, zeros past it
abbrev pub bit_row : ℕ → List ℕ
bit_row n = map bit (pad last_place (zeckendorf n))

-- number to list, into a row of `room` bytes: the count of places
unfoldable pub places_outcome : ℕ → ℕ → Outcome ℕ
places_outcome n room = outcome ((Room given_if ltb room (length (places_of n))) ∷ []) (length (places_of n))

-- and the row at exit
unfoldable pub places_buffer : ℕ → List ℕ → List ℕ
places_buffer n row = buffer_after (places_outcome n (length row)) (places_of n) row

-- list to number, of a Zeckendorf form of places 1 to 92, where it fits 64 bits
unfoldable pub number_outcome : List ℕ → Outcome ℕ
number_outcome l =
    outcome
    ((Index given_if not (are_places last_place l))
    ∷ (Range given_if leb (2 ^ 64) (weight l))
    ∷ [])
    (weight l)

-- A line of numbers that is put number by number: the first, and then what follows it; and how long it is.
use mathlib.Core.Path.{◌≡◌, refl, ap, ◌∙◌}
use mathlib.Core.List.{List, [], ◌∷◌, ◌++◌, map, append_assoc}
use Prim.Native.Nat.{ℕ, zero, suc, ◌+◌, ◌*◌, ◌^◌, ◌≤◌, ◌<◌}
use native.Mathlib.Numerals.{add-one}
use native.Mathlib.Omega.{arith}
use lib.ListN.{length, get_or, drop, length-append, length-map, drop_of_length-le}
use lib.Seq.{drop-cons}
use Rattle.text.specs.Text.{decimal, blank, newline, line, number_line, numbers_line}
use Rattle.text.proofs.Laws.Decimal.{decimal_length, decimal_64}
use Rattle.text.proofs.Laws.Lines.{line_most}
use Rattle.putting.specs.declared.Buffer.{Buffer}
use Rattle.putting.specs.Buffers.{Puts}
use Rattle.putting.proofs.Laws.Buffers.{puts_both, RestOf, rest_all, rest_next}

-- what follows a number on its line
unfoldable pub following : List ℕ → List ℕ
following [] = newline ∷ []
following (n ∷ values) = blank ∷ [] ++ decimal n ++ following values

line_first : (n : ℕ) (values : List ℕ) → numbers_line (n ∷ values) ≡ decimal n ++ following values
unfolding line following
line_first n [] = refl
line_first n (m ∷ values) =
    ap (λ (l : List ℕ). decimal n ++ blank ∷ [] ++ l) (line_first m values)
    ∙ append_assoc (decimal n) (blank ∷ []) (decimal m ++ following values)

pub no_numbers : (values : List ℕ) → length values ≡ 0 → numbers_line values ≡ newline ∷ []
unfolding line
no_numbers [] none = refl
no_numbers (n ∷ values) none = absurd (omega arith)

-- the first number, then what follows it
pub first_left : {a b : Buffer} {values others : List ℕ} {n : ℕ} → values ≡ n ∷ others → Puts a (decimal n) b
    → RestOf a (numbers_line values) b (following others)
first_left {a} {others = others} {n} e w = rw (e, line_first n others) (rest_next (decimal n) (following others) (rest_all a _) w)

module _ (values : List ℕ) (i : ℕ) {a b : Buffer} {whole : List ℕ} (left : RestOf a whole b (following (drop i values))) where
  pub next_left : {c d : Buffer} → i < length values → Puts b (blank ∷ []) c → Puts c (decimal (get_or values i 0)) d
      → RestOf a whole d (following (drop (i + 1) values))
  unfolding following
  next_left h w x = rw (add-one i) (rest_next _ _ (rw (drop-cons values i 0 h) at left) (puts_both w x))

  pub last_left : {c : Buffer} → length values ≤ i → Puts b (newline ∷ []) c → Puts a whole c
  unfolding following
  last_left h w = left.whole (rw (drop_of_length-le values {i = i} h) w)

-- ---- how long a line is

decimals_most : (k : ℕ) (values : List ℕ) → ((i : ℕ) → get_or values i 0 < 10 ^ suc k) → (i : ℕ) → length (get_or (map decimal values) i []) ≤ suc k
decimals_most k [] small i = omega arith
decimals_most k (n ∷ values) small zero = decimal_length k n (small 0)
decimals_most k (n ∷ values) small (suc i) = decimals_most k values (λ j. small (suc j)) i

-- numbers of at most so many digits
pub numbers_short : (k : ℕ) (values : List ℕ) → ((i : ℕ) → get_or values i 0 < 10 ^ suc k) → length (numbers_line values) ≤ (suc k + 1) * length values + 1
numbers_short k values small =
    omega (arith, rw (length-map values decimal) at (line_most (suc k) (map decimal values) (decimals_most k values small)))

pub number_short : (n : ℕ) → n < 18446744073709551616 → length (number_line n) ≤ 21
unfolding line
number_short n h = omega (arith, length-append (decimal n) (newline ∷ []), decimal_64 n h)

-- REQUIREMENTS 8, trace: each register's whole exponent, unreduced, minus signs kept.
use Rattle.std.specs.Prelude.{Bool, true, cond, ◌&&◌, List, [], ◌∷◌, ℕ, suc, ◌-◌, ◌%◌, ◌^◌, ℤ, pos, negsuc, neg_ℤ, ◌+ℤ◌, ◌-ℤ◌, get_or, set, take, Result}
use Rattle.std.specs.Int.Signed.{le_z}
use Rattle.refusal.specs.declared.Refusal.{Refusal}
use Rattle.refusal.specs.Refusals.{number_of}
use Rattle.refusal.specs.Outcomes.{Outcome, refused, answered, outcome_by}
use Rattle.modular.specs.Inverses.{inverse}
use Rattle.tape.specs.declared.Step.{Step}
use Rattle.tape.specs.declared.Step.TheVariants.{Mul, Div, Swp}
use Rattle.machine.specs.declared.Exponents.{Exponents}

-- the four exponents of the code, by their registers' numbers
abbrev pub exponents_of : Exponents → List ℤ
exponents_of exponents = exponents.c ∷ exponents.d ∷ exponents.e ∷ exponents.f ∷ []

-- the exponent of register i
abbrev pub exponent : List ℤ → ℕ → ℤ
exponent z i = get_or z i (pos 0)

-- the first four of some exponents
abbrev pub first_exponents : List ℤ → List ℤ
first_exponents z = exponent z 0 ∷ exponent z 1 ∷ exponent z 2 ∷ exponent z 3 ∷ []

-- mul: the source's exponent is added to the target's; div: it is subtracted; swp: the two are exchanged
unfoldable pub shift : Step → List ℤ → List ℤ
shift (Mul t s) z = set z t (exponent z t +ℤ exponent z s)
shift (Div t s) z = set z t (exponent z t -ℤ exponent z s)
shift (Swp t s) z = set (set z t (exponent z s)) s (exponent z t)

-- the steps of a list one after another
unfoldable pub shift_all : List Step → List ℤ → List ℤ
shift_all [] z = z
shift_all (x ∷ xs) z = shift_all xs (shift x z)

-- the exponents that a trace starts from
abbrev pub start_exponents : List ℤ
start_exponents = pos 0 ∷ pos 1 ∷ pos 0 ∷ pos 0 ∷ []

-- the exponents at position n
abbrev pub exponents_at : List Step → ℕ → List ℤ
exponents_at xs n = shift_all (take n xs) start_exponents

-- from -2^62 to 2^62, both among them
unfoldable pub in_range : ℤ → Bool
in_range e = le_z (neg_ℤ (pos (2 ^ 62))) e && le_z e (pos (2 ^ 62))

unfoldable pub all_in_range : List ℤ → Bool
all_in_range [] = true
all_in_range (e ∷ z) = in_range e && all_in_range z

-- at every position of a list of steps, the first and the last among them
unfoldable pub stays_in_range : List Step → List ℤ → Bool
stays_in_range [] z = all_in_range z
stays_in_range (x ∷ xs) z = all_in_range z && stays_in_range xs (shift x z)

-- the number that a step makes is in the range: the sum of a mul, the difference of a div; an exchange makes none
unfoldable pub makes_in_range : Step → List ℤ → Bool
makes_in_range (Mul t s) z = in_range (exponent z t +ℤ exponent z s)
makes_in_range (Div t s) z = in_range (exponent z t -ℤ exponent z s)
makes_in_range (Swp t s) z = true

-- a step that is done where the number it makes is in the range
unfoldable pub shift_in_range : Step → List ℤ → List ℤ
shift_in_range x z = cond (makes_in_range x z) (shift x z) z

-- the outcome that an answer of the code stands for
abbrev pub exponents_outcome_of : Result Exponents Refusal → Outcome (List ℤ)
exponents_outcome_of = outcome_by exponents_of

-- a^e modulo p: for a negative exponent the inverse of the power with its sign turned
unfoldable pub power_of : ℕ → ℕ → ℤ → ℕ
power_of p a (pos n) = a ^ n % p
power_of p a (negsuc n) = inverse p (a ^ suc n % p)

-- e modulo r, from 0 to r - 1; `negsuc n` is -(n + 1)
unfoldable pub residue_of : ℕ → ℤ → ℕ
residue_of r (pos n) = n % r
residue_of r (negsuc n) = r - suc (n % r)

-- REQUIREMENTS 7.1: what p, r, k and the variant of a named program may be. Each test says that a number is refused.
use Rattle.std.specs.Prelude.{Bool, not, ◌&&◌, ◌||◌, ℕ, ◌-◌, leb, ltb, eqb}
use Rattle.modular.specs.Search.{divides}
use Rattle.modular.specs.Primes.{is_prime}
use Rattle.tape.specs.Words.{number_limit}
use Rattle.named.specs.Named.{last_variant}

-- refusal 1: p isn't a prime from 3 to 268435455
unfoldable pub bad_modulus : ℕ → Bool
bad_modulus p = not (is_prime p && (leb 3 p && ltb p number_limit))

-- refusal 2: r < 2, or r doesn't divide p - 1
unfoldable pub bad_order : ℕ → ℕ → Bool
bad_order p r = ltb r 2 || not (divides r (p - 1))

-- refusal 4 in build: no variant of the table has the number
unfoldable pub bad_variant : ℕ → Bool
bad_variant variant = eqb variant 0 || ltb last_variant variant

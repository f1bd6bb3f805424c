-- Orders modulo 359, document 01's prime, and prime divisors, computed from the definitions.
use mathlib.Core.Path.{◌≡◌, refl}
use mathlib.Core.Bool.{true, false}
use mathlib.Core.List.{[], ◌∷◌}
use Rattle.divisors.specs.Search.{greatest}
use Rattle.modular.specs.Primes.{is_prime}
use Rattle.orders.specs.Orders.{is_order}
use Rattle.orders.specs.PrimeDivisors.{primes_to, primes_of}

-- In order: 4 has order 179, and not 358, though 358 gives 1; 7 has order 358, and 179 doesn't give 1; 358 has order 2; 1 has order 1, and neither
-- 179 nor 0.
pub orders_359 : (is_order 359 4 179 ≡ true)
    × (is_order 359 4 358 ≡ false)
    × (is_order 359 7 358 ≡ true)
    × (is_order 359 7 179 ≡ false)
    × (is_order 359 358 2 ≡ true)
    × (is_order 359 1 1 ≡ true)
    × (is_order 359 1 179 ≡ false)
    × (is_order 359 1 0 ≡ false)
unfolding is_order greatest
orders_359 = (refl, refl, refl, refl, refl, refl, refl, refl)

pub prime_divisors : (primes_of 0 ≡ [])
    × (primes_of 1 ≡ [])
    × (primes_of 2 ≡ 2 ∷ [])
    × (primes_of 64 ≡ 2 ∷ [])
    × (primes_of 179 ≡ 179 ∷ [])
    × (primes_of 358 ≡ 2 ∷ 179 ∷ [])
    × (primes_of 360 ≡ 2 ∷ 3 ∷ 5 ∷ [])
unfolding primes_to is_prime greatest
prime_divisors = (refl, refl, refl, refl, refl, refl, refl)

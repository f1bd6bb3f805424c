-- The prime divisors of r, and the test of an order by them: it decides as `is_order` does (`order_by_primes` of proofs/Laws/Deciding).
use Rattle.std.specs.Prelude.{Bool, true, not, ◌&&◌, cond, List, [], ◌∷◌, ◌++◌, ℕ, zero, suc, ◌/◌, leb}
use Rattle.divisors.specs.Search.{divides}
use Rattle.modular.specs.Primes.{is_prime}
use Rattle.orders.specs.Orders.{gives_one}

-- those up to n, the least first
unfoldable pub primes_to : ℕ → ℕ → List ℕ
primes_to r zero = []
primes_to r (suc n) = primes_to r n ++ cond (is_prime (suc n) && divides (suc n) r) (suc n ∷ []) []

-- all of them, each once; of 0, which every prime divides, none
abbrev pub primes_of : ℕ → List ℕ
primes_of r = primes_to r r

-- no number of 32 bits has more: each of them is 2 at least
abbrev pub max_primes : ℕ
max_primes = 32

-- for no q of a list the exponent r / q gives 1
unfoldable pub none_gives_one : ℕ → ℕ → ℕ → List ℕ → Bool
none_gives_one p a r [] = true
none_gives_one p a r (q ∷ qs) = not (gives_one p a (r / q)) && none_gives_one p a r qs

-- the test: a power for r, and one for each of its prime divisors
abbrev pub is_order_by_primes : ℕ → ℕ → ℕ → Bool
is_order_by_primes p a r = leb 1 r && (gives_one p a r && none_gives_one p a r (primes_of r))

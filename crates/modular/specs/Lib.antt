-- Numbers modulo m, in reading order.
pub use Rattle.divisors.specs.Search
pub mod Primes
pub mod Residues
pub mod Inverses

-- Laws that belong to no one function, in reading order.
pub mod Primes
pub mod Residues
pub mod Euclid
pub mod Ends
pub mod Inverses
pub mod Service
pub mod Group
pub mod Powers

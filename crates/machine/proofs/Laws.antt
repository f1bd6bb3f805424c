-- Laws of steps, of going from one position to another, and of whole exponents.
pub mod Steps
pub mod Runs
pub mod Carried
pub mod Lists
pub mod Actions
pub mod Ways
pub mod Counts
pub mod Integers
pub mod Exponents
pub mod Orders
pub mod Ranges
pub mod Sums
pub mod Traces
pub mod Congruences

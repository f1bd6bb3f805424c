-- Laws of the numbers and forms, in the order in which they build on each other.
pub mod Fibonacci
pub mod Weights
pub mod Hofstadter
pub mod Quotients
pub mod Forms
pub mod Zeckendorf
pub mod Places
pub mod Height
pub mod Ranges
pub mod Tables
pub mod Lengths
pub mod Taking
pub mod BitStrings
pub mod Summing

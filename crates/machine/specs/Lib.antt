-- REQUIREMENTS 3: what a step means, on registers and on whole exponents.
pub mod Machine
pub mod Ways
pub mod Exponents
pub mod Inner

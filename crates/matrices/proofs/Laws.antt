-- The whole numbers are a ring; the numbers below 4; a determinant by its rows; worked examples.
pub mod Rings
pub mod Below
pub mod Determinants
pub mod Alternating
pub mod Examples

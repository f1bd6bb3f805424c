-- Matrices of whole numbers.
pub mod Matrices

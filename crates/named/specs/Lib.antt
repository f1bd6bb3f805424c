-- Figures 2, 4 and 6 of the paper as document 01 corrects them, and the named programs: their steps, words, parameters and promises.
pub mod Generators
pub mod Named
pub mod Promises
pub mod Members
pub mod Parameters
pub mod Figures
pub mod Variants

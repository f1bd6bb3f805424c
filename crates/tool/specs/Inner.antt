-- Definitions that only contracts of inner functions cite: nothing that a reader has to judge.
pub mod Held
pub mod Kinds
pub mod Understood

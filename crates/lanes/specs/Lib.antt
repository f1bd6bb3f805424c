-- Definitions of this crate's inner contracts.
pub mod Inner

-- The laws of scripts.
pub mod Laws

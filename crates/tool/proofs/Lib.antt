-- The laws of the tool's definitions.
pub mod Laws

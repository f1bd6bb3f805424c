-- A tape as bytes, as REQUIREMENTS 11 has it.
pub mod Encoding

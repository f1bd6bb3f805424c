-- A parameter by its place, and parameters stored in a row.
pub mod Stored

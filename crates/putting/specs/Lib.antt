-- A lent buffer.
pub mod Buffers

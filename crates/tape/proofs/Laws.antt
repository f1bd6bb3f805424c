-- Laws of words and tapes, in the order in which they build on each other.
pub mod Payloads
pub mod Words
pub mod Shapes
pub mod Rows
pub mod Layout
pub mod Reading
pub mod Writing
pub mod Opcodes

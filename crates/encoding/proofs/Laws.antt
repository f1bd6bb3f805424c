-- The words that bytes give, the bytes that words give, and one read back from the other.
pub mod Tapes
pub mod Cases
pub mod Bytes

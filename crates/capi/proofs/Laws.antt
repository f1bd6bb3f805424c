-- What storing an answer leaves behind.
pub mod Storing

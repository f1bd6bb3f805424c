-- Answers that the definitions see in another way than the code.
pub mod Seen

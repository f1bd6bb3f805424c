-- What the functions that write a program's words are given and leave.
pub mod Writing

-- Laws of tests, of lists of refusals, of exits by a refusal, of rows that a call writes, and of lists in the front of a row.
pub mod Tests
pub mod Rules
pub mod Exits
pub mod Rows
pub mod Zeros

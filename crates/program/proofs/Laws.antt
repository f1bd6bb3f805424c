-- Laws of the forms and words that build writes, and of build and check.
pub mod Writing
pub mod Building
pub mod Forms
pub mod Answering
pub mod Same
pub mod Checking
pub mod Door
pub mod Accepting

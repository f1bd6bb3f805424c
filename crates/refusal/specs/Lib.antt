-- REQUIREMENTS 7: the numbers of the refusals, what a call comes to, and what it leaves in a lent buffer.
pub mod Refusals
pub mod Outcomes
pub mod Rows
pub mod Reasons

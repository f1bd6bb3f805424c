-- Load, run, trace, table and cut by cases, what their answers say, the bases that load takes, forward, rows of bases, sessions, previews, and demand 3.
pub mod Cases
pub mod Positions
pub mod Requests
pub mod Answers
pub mod Orders
pub mod Forward
pub mod Bases
pub mod Sessions
pub mod Previews
pub mod Chains
pub mod Rewinds
pub mod Tracing
pub mod Tables
pub mod Examples

-- REQUIREMENTS 8: load, run, trace and cut, and the words of demand 3; document 02: many bases in one pass, the trace with four unknowns,
-- the register record and sessions, the preview.
pub mod Records
pub mod Services
pub mod Bases
pub mod Sessions
pub mod Previews
pub mod Lists
pub mod Demand
pub mod Tracing
pub mod Tables
pub mod Inner

-- REQUIREMENTS 11.
pub mod Listing

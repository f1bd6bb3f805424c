-- Lines, and a listing by cases and by its length.
pub mod Lines
pub mod Cases
pub mod Lengths
pub mod Examples

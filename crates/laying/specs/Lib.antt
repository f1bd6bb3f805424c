-- Where a tape is laid out.
pub mod Place

-- What comes of a tape that is accepted or refused.
pub mod Accepted

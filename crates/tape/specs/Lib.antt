-- REQUIREMENTS 5, in its order.
pub mod Steps
pub mod Words
pub mod Layout
pub mod Inner

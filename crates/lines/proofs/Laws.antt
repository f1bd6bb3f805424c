-- A line of numbers.
pub mod Numbers

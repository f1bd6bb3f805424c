-- A bounded search and small divisors, in reading order.
pub mod Search
pub mod Small
pub mod Inner

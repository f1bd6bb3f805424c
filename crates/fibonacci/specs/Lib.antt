-- REQUIREMENTS 2, in its order.
pub mod Fibonacci
pub mod Forms
pub mod Hofstadter
pub mod Height
pub mod Services
pub mod Inner

-- Laws that belong to no one function, in reading order.
pub mod Orders
pub mod Factors
pub mod Deciding
pub mod Least
pub mod Finding
pub mod Examples

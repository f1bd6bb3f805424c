-- Laws that belong to no one function, in reading order.
pub mod Search
pub mod Small
pub mod Quotients
pub mod Inverses
pub mod Least
pub mod Covering

-- Laws that belong to no one function, in reading order.
pub mod Newton
pub mod Forms
pub mod Squaring

-- The order of a base modulo p, and the prime divisors that decide it, in reading order.
pub mod Orders
pub mod PrimeDivisors
pub mod Inner

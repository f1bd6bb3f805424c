-- Document 02, T-02: the exponent of each start value in each register.
pub mod Tables
pub mod Inner

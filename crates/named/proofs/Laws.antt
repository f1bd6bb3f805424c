-- Laws of the generators and of the named programs: their steps, powers, lengths, and the range of their exponents; the variants, and
-- what holds of all of them.
pub mod Members
pub mod Parameters
pub mod Sound
pub mod Lengths
pub mod Sequences
pub mod Loops
pub mod Ends
pub mod Programs
pub mod Forms
pub mod Basic
pub mod Dual
pub mod Hybrid
pub mod Table
pub mod Figures
pub mod Names

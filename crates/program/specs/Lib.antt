-- Build's and check's outcomes, and what the contracts of inner functions say.
pub mod Services
pub mod Door
pub mod Same
pub mod Inner

-- Montgomery's form. A contract of a service cites none of it.
pub mod Inner

-- What is put into a buffer: texts one after another, and lines.
pub mod Buffers
pub mod Lines

-- Decimal digits written and read, whole numbers, texts put one after another, lines, words, words quoted, and examples.
pub mod Decimal
pub mod Digits
pub mod Wholes
pub mod Puts
pub mod Lines
pub mod Words
pub mod Quoting
pub mod Examples

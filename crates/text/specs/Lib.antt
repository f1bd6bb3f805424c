-- Text as bytes: numbers and lines, what is put into a lent buffer, what is read from bytes, words quoted.
pub mod Text
pub mod Rows
pub mod Reading
pub mod Quoting

-- A table by its entries and its rows; its determinant, its product with the table of the way back, what it says of registers, its range;
-- what it comes to by its columns; that of case A.
pub mod Entries
pub mod Rows
pub mod Signs
pub mod Columns
pub mod Products
pub mod Ranges
pub mod Outcomes
pub mod Examples

-- Scripts: command lines one after another, with a row of tapes kept between them.
pub mod Script
pub mod States
pub mod Inner

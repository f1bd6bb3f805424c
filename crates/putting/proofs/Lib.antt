-- What holds of the definitions, apart from the code.
pub mod Laws

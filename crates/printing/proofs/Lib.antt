-- What holds of the replies, apart from the code.
pub mod Laws

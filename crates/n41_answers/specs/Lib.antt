pub mod Answers
pub mod Index
pub mod Indexed
pub mod Laws

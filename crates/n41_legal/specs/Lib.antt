pub mod Answers
pub mod Legality

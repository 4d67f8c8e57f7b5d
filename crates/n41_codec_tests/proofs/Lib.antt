pub mod Attributes
pub mod Again
pub mod Answered

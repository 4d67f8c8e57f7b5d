pub mod Reading
pub mod Tags
pub mod Arguments
pub mod Outcomes
pub mod Calls
pub mod Steps
pub mod Answers

pub mod Names
pub mod Forms
pub mod Answers
pub mod Events
pub mod Journals

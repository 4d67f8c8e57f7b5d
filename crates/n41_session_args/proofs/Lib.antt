pub mod Lawful
pub mod Counted

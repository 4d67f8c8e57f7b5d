pub mod Dumps
pub mod Causes
pub mod Steps

pub mod Sessions
pub mod Locks

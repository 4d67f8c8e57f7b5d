pub mod Callers
pub mod Paths
pub mod Commands
pub mod Cursors
pub mod Heads

pub mod Owners
pub mod Locks
pub mod Openings
pub mod Files
pub mod Directories
pub mod Args
pub mod Fits

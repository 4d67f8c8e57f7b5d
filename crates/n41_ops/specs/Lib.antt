pub mod Openings
pub mod Locks
pub mod Sessions
pub mod Files
pub mod Results

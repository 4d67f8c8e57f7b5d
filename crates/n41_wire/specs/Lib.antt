pub mod Ends
pub mod Faults
pub mod Got
pub mod Logs
pub mod Posts

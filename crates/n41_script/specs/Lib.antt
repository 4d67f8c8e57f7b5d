pub mod Lines
pub mod Callers
pub mod Commands
pub mod Scripts
pub mod Faults

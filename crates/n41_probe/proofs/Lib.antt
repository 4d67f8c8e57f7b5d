pub mod Asked
pub mod Heard

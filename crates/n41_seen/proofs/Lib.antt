pub mod OpsLoop
pub mod Spelled

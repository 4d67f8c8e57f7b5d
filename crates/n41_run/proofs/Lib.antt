pub mod Address
pub mod Forms
pub mod Probed
mod Ended

pub mod Plans
pub mod Requests

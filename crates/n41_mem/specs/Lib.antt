pub mod Held
pub mod Plans

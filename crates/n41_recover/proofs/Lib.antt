pub mod Plans
pub mod Leases
pub mod Owns
pub mod Alone
pub mod Steps

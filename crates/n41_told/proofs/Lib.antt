pub mod Chosen
pub mod Ledgers
pub mod Told
pub mod Telling
pub mod Settled

pub mod Dropped
pub mod Going

pub mod Equal
pub mod Deciding
pub mod Illegal
pub mod Parts

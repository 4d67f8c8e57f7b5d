pub mod Spelled
pub mod Grown
pub mod Gathering
pub mod Unique
pub mod Cut

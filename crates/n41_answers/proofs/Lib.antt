pub mod Lookups
pub mod Counted
pub mod Placed
pub mod Law
pub mod Rows
pub mod Sample

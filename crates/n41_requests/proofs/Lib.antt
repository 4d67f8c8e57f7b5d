pub mod Lists
pub mod Set
pub mod Counts
pub mod Lengths
pub mod Asked
pub mod Small

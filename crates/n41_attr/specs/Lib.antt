pub mod Faults
pub mod Reading
pub mod Bitmaps
pub mod Attributes
pub mod Operations
pub mod Unions
pub mod Parts

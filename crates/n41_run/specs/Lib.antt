pub mod Words
pub mod Causes
pub mod Asked
pub mod Finishes

pub mod Printing
pub mod Finished

pub mod Counts
pub mod Ends
pub mod Flow
pub mod Heard
pub mod Links
pub mod Moments
pub mod Reads
pub mod Said

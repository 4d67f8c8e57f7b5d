pub mod Seen
pub mod Loops
pub mod Kept
pub mod OpeningsLawful
pub mod LocksLawful
pub mod SessionsLawful
pub mod FilesLawful
pub mod ResultsLawful

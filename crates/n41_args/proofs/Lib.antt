pub mod PartsLawful
pub mod ArgsLawful
pub mod Fits

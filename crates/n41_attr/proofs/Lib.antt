pub mod Lawful
pub mod Written
pub mod Unions
pub mod PartsLawful
pub mod Convert

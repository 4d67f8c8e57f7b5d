pub mod Steps
pub mod Combined
pub mod Basic
pub mod Arrays
pub mod Unions
pub mod Chains
pub mod Loop
pub mod Lawful

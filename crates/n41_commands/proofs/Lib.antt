pub mod Verbs
pub mod Steps
pub mod Nexts
pub mod Chains

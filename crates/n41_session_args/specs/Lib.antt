pub mod Security
pub mod Sessions

pub mod Steps
pub mod Server
pub mod Rules
pub mod Effects
pub mod Good

pub mod Seats
pub mod Earned
pub mod Settling
pub mod Rounds
pub mod Answered
pub mod Told
pub mod Commands
pub mod Spellable

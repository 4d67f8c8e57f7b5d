pub mod Suits
pub mod Puts
pub mod Moves
pub mod Bares
pub mod Single
pub mod Said

pub mod Modes
pub mod Ids
pub mod Opens
pub mod Inside

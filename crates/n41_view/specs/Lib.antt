pub mod View
pub mod Step
pub mod Laws
pub mod Due
pub mod Causes
pub mod May

pub mod Same
pub mod First

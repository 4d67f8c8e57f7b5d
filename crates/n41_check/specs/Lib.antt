pub mod Rules
pub mod Rows
pub mod Asked
pub mod Callers
pub mod Shows

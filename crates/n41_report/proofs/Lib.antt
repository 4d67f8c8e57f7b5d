pub mod Octal
pub mod Kept
pub mod Printed

pub mod Firsts
pub mod Loop
pub mod Bytes

pub mod Firsts
pub mod Steps
pub mod Tellings
pub mod Found
pub mod One
pub mod Texts

pub mod Handles
pub mod Cookies
pub mod Stays

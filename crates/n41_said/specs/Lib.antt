pub mod Handles
pub mod Listings

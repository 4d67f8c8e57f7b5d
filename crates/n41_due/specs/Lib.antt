pub mod Old
pub mod Order
pub mod Places

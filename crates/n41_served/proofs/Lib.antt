pub mod Served
pub mod Answering
pub mod Running
pub mod Putting
pub mod Taking

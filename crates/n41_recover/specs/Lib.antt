pub mod Recovery
pub mod Step
pub mod Laws

pub mod Net
pub mod Lives
pub mod Verdicts

pub mod Judged
pub mod Led
pub mod Promised

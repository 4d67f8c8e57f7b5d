pub mod Parted
pub mod Numbers
pub mod Serving
pub mod Standing
pub mod Going
pub mod Breaches

pub mod ReadBack
pub mod HexBack
pub mod Words
pub mod Forms
pub mod Back

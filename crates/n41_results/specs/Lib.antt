pub mod Callbacks
pub mod Results
pub mod Shapes

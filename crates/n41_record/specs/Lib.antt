pub mod Fragments
pub mod Streams
pub mod Gathered
pub mod Partials
pub mod Sound
pub mod Laws

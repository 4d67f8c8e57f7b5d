pub mod Seqids
pub mod Fronts

pub mod Outs
pub mod First
pub mod Ready
pub mod Placed
pub mod Old
pub mod Next
pub mod Begins

pub mod Loops
pub mod OpsLoop
pub mod Parts
pub mod CallsSpelled
pub mod AnswersSpelled

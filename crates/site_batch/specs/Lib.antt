pub mod Answers
pub mod Work
pub mod Shares
pub mod Gathered

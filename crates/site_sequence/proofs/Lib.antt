mod GoingOn
pub mod OneAuthor
mod Taken
pub mod OneResult
mod TurnExamples
pub mod Turns
